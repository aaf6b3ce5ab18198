-- A chapter written out in full.
use Rattle.std.specs.Prelude.{◌≡◌, [], ◌∷◌, codes}
use Rattle.job.specs.Examples.{ladder_page}
use Rattle.round_trip.specs.Chapters.{chapter_lines}

-- the ladder page, with each range written out
abbrev pub WrittenLadder : Type 0
WrittenLadder =
    chapter_lines ladder_page ≡ codes "m,hy,300,45" ∷ codes "m,le,1500,*" ∷ codes "r,ladder,hy <0 0> le <2 6> hy <0 0> le" ∷ codes "b,97 45 98 99 100 45 101 45 102 45 103 104" ∷ codes "s,le,2,2" ∷ codes "s,le,6,6" ∷ codes "s,le,10,10" ∷ codes "s,le,12,12" ∷ []
