-- What a passed test holds.
use Rattle.std.specs.Prelude.{ℕ, List}
use Rattle.show.specs.Numbers.{numbers}
use Rattle.show.specs.declared.tested.ShowTest.{ShowTest}

-- `strip_of t`      its strip
abbrev pub strip_of : ShowTest → List ℕ
strip_of t = numbers t.strip

-- `count_of t`      how many of its stretches are shown
abbrev pub count_of : ShowTest → ℕ
count_of t = t.m
