-- What is known of what a line without fault says.
use Rattle.std.specs.Prelude.{◌≡◌, ℕ, ◌≤◌, true, List, length, None}
use Rattle.refusal.specs.Checks.{refused_by}
use Rattle.entry.specs.Names.{is_name}
use Rattle.shape.specs.Follow.{misfit}
use Rattle.shape.specs.Grammar.{net}
use Rattle.body.specs.Bodies.{body_of}
use Rattle.net.specs.Tokens.{names_over, net_tokens}
use Rattle.line.specs.Said.{Says, nothing, motif, rule, boxes, mark}

pub record SoundRule (most : ℕ) (n t : List ℕ) : Type 0 where
  pub named : is_name n ≡ true
  pub shaped : misfit net t ≡ None
  pub few : names_over 0 (net_tokens t) ≡ None
  pub short : length t ≤ most

-- names are names, a body and a net have their sizes, a net its shape; no field is longer than `most`
abbrev pub Sound : ℕ → Says → Type 0
Sound most nothing = Unit {0}
Sound most (motif n w b) = (is_name n ≡ true) × (refused_by (body_of b) ≡ None)
Sound most (rule n t) = SoundRule most n t
Sound most (boxes c) = length c ≤ most
Sound most (mark n a b) = (a ≤ 20000) × (b ≤ 20000)
