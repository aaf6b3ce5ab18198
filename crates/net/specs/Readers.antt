-- What a net reader yields, and what it has left.
use Rattle.std.specs.Prelude.{List}
use Rattle.parts.specs.Readers.{parts_left}
use Rattle.net.specs.Tokens.{Tok, name, range, tokens_of}
use Rattle.net.specs.declared.NetReader.{NetReader}
use Rattle.net.specs.declared.Token.{Token}
use Rattle.net.specs.declared.Token.TheVariants.{Name, Range}

-- `token_of t`     the token t that was yielded
abbrev pub token_of : Token → Tok
token_of (Name at letters) = name at letters.now
token_of (Range at bounds) = range at bounds

-- `tokens_left r`  the tokens that the reader r has left
abbrev pub tokens_left : NetReader → List Tok
tokens_left r = tokens_of (parts_left r.parts)
