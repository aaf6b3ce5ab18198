-- Jobs whose reading is worked out in full.
use Rattle.std.specs.Prelude.{◌≡◌, ℕ, List, [], ◌∷◌, ◌++◌, pos, negsuc, Some, None, codes}
use Rattle.entry.specs.Rules.{Link}
use Rattle.body.specs.Entries.{code}
use Rattle.word.specs.declared.faults.WordFault.TheVariants.{BadNumber}
use Rattle.line.specs.declared.faults.LineFault.TheVariants.{BadShape, Word}
use Rattle.text.specs.Pages.{Page}
use Rattle.text.specs.declared.faults.TextFault.{TextFault}
use Rattle.text.specs.declared.faults.TextFault.TheVariants.{Line}
use Rattle.job.specs.Jobs.{job_read}

abbrev pub empty_page : Page
empty_page = record { motifs = []; rules = []; row = []; marks = [] }

-- lines, each ended by byte 10
abbrev pub ended : List (List ℕ) → List ℕ
ended [] = []
ended (l ∷ ls) = l ++ 10 ∷ ended ls

abbrev pub hyphen : List ℕ
hyphen = codes "m,hy,300,45"

-- the ladder page
abbrev pub ladder : List ℕ
ladder = ended (hyphen ∷ codes "m,le,1500,*" ∷ codes "r,ladder,hy le <2 6> hy le" ∷ codes "b,97 45 98 99 100 45 101 45 102 45 103 104" ∷ codes "s,le,2,2" ∷ codes "s,le,6,6" ∷ codes "s,le,10,10" ∷ codes "s,le,12,12" ∷ [])

abbrev pub ladder_page : Page
ladder_page = record {
  motifs = record { name = codes "hy"; weight = 300; body = Some (code 45 ∷ []) } ∷ record { name = codes "le"; weight = 1500; body = None } ∷ [];
  rules = record {
    name = codes "ladder";
    net = record {
      first = 0;
      rest = record { range = record { low = pos 0; high = pos 0 }; motif = 1 } ∷ record { range = record { low = pos 2; high = pos 6 }; motif = 0 } ∷ record { range = record { low = pos 0; high = pos 0 }; motif = 1 } ∷ [];
    };
  } ∷ [];
  row = 97 ∷ 45 ∷ 98 ∷ 99 ∷ 100 ∷ 45 ∷ 101 ∷ 45 ∷ 102 ∷ 45 ∷ 103 ∷ 104 ∷ [];
  marks = record { motif = 1; start = 2; end = 2 } ∷ record { motif = 1; start = 6; end = 6 } ∷ record { motif = 1; start = 10; end = 10 } ∷ record { motif = 1; start = 12; end = 12 } ∷ [];
}

-- the fault of a job that names the motif hy in its first line, and this in its second
abbrev pub Second : List ℕ → TextFault → Type 0
Second l e = (job_read empty_page (ended (hyphen ∷ l ∷ []))).fault ≡ Some (record { line = 2; fault = e })

-- the range between the two motifs of the rule that this line brings
abbrev pub Ranges : List ℕ → List Link → Type 0
Ranges l gs = (job_read empty_page (ended (hyphen ∷ l ∷ []))).page.rules ≡ record { name = codes "l"; net = record { first = 0; rest = gs } } ∷ []

-- the ladder page is read whole; a name where a number is due is told at its place; ranges have their limits
pub record WorkedJobs : Type 0 where
  pub ladder_page_read : job_read empty_page ladder ≡ record { page = ladder_page; fault = None }
  pub name_for_number : Second (codes "r,l,hy <2 x> hy") (Line (BadShape 10))
  pub range_too_low : Second (codes "r,l,hy <-2001 0> hy") (Line (Word (BadNumber 8)))
  pub widest_range : Ranges (codes "r,l,hy <-2000 2000> hy") (record { range = record { low = negsuc 1999; high = pos 2000 }; motif = 0 } ∷ [])
