-- What a turn says in the words of the sheet's model: its call, and the reply to it.
use Rattle.std.specs.Prelude.{◌≡◌, ℕ, List, [], map, Some, vec_items, Option, Ok, Err, Result}
use Rattle.std.specs.Option.{option_map}
use Rattle.refusal.specs.declared.Refusal.{Refusal}
use Rattle.rules.specs.Nets.{nets_in}
use Rattle.walk.specs.Asked.{order_of}
use Rattle.sheet_model.specs.Sheet as M
use Rattle.sheet.specs.States.{ending}
use Rattle.perform.specs.declared.values.Answer.{Answer}
use Rattle.perform.specs.declared.values.Answer.TheVariants.{Done, Looked}
use Rattle.perform.specs.declared.values.Call.{Call}
use Rattle.perform.specs.declared.values.Call.TheVariants.{Lay, Look, Take, Wipe}
use Rattle.perform.specs.declared.values.Turn.{Turn}

abbrev pub call_of : Call → M.Call
call_of (Lay book rule order) = M.lay (nets_in book.now) rule (order_of order)
call_of (Look allowance) = M.look allowance
call_of (Take strip) = M.take (vec_items strip)
call_of Wipe = M.wipe

-- the call without its strip
abbrev pub handed : Call → M.Call
handed (Lay book rule order) = M.lay (nets_in book.now) rule (order_of order)
handed (Look allowance) = M.look allowance
handed (Take strip) = M.take []
handed Wipe = M.wipe

abbrev pub plain_reply : Result Answer Refusal → M.Reply
plain_reply (Ok Done) = M.Done
plain_reply (Ok (Looked l)) = ending l.outcome l.looks l.bill
plain_reply (Err x) = M.Refused x

-- the reply to a take has the strip, as it stands then
abbrev pub strip_reply : List ℕ → Result Answer Refusal → M.Reply
strip_reply strip (Ok Done) = M.Took strip
strip_reply strip (Ok (Looked l)) = ending l.outcome l.looks l.bill
strip_reply strip (Err x) = M.Returned x strip

abbrev pub reply_to : Call → Result Answer Refusal → M.Reply
reply_to (Lay book rule order) r = plain_reply r
reply_to (Look allowance) r = plain_reply r
reply_to (Take strip) r = strip_reply (vec_items strip) r
reply_to Wipe r = plain_reply r

-- the reply of a turn, none where the call was not made
abbrev pub said : Turn → Option M.Reply
said t = option_map (reply_to t.call) t.reply

abbrev pub calls_in : List Turn → List M.Call
calls_in ts = map (λ t. call_of t.call) ts

-- each turn has its reply, and these are they
abbrev pub Replied : List Turn → List M.Reply → Type 0
Replied ts rs = map said ts ≡ map Some rs
