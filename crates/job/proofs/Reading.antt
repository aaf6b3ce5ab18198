-- The lines of a job, one by one.
use Rattle.std.proofs.Common.{◌≡◌, ℕ, ◌+◌, ◌≤◌, cond, List, [], ◌∷◌, map, length, Some, Ok, Err, Result, sym, refl, ap, ◌∙◌, arith}
use Rattle.std.proofs.lemmas.Bool.{le-ltb}
use Rattle.std.proofs.lemmas.List.{length-map}
use Rattle.parts.specs.Parts.{Placed, parts, placed}
use Rattle.parts.proofs.Tallies.{length-parts, tally-bound}
use Rattle.refusal.specs.Checks.{refused_by}
use Rattle.text.specs.Pages.{Page}
use Rattle.text.specs.Taking.{fault_in, page_or}
use Rattle.text.specs.declared.faults.TextFault.{TextFault}
use Rattle.text.specs.declared.faults.TextFault.TheVariants.{JobTooLong}
use Rattle.job.specs.declared.fault.JobFault.{JobFault}
use Rattle.job.specs.Jobs.{Read, line_read, job_read, read_lines, read_on}

was-refused : (p q : Page) (r : Result Page TextFault) (f : TextFault) → Some f ≡ fault_in r → q ≡ page_or p r → (r ≡ Err f) × (q ≡ p)
was-refused p q (Ok x) f e h = let z : ◌≡◌ {A = ℕ} 0 1 = cc in absurd (omega arith)
was-refused p q (Err x) f e h = (cc, h)

-- of a line that was taken only its page counts
pub forgets : (n : ℕ) (p q : Page) (ls : List (List ℕ)) → read_on n q (Ok q) ls ≡ read_on n p (Ok q) ls
forgets n p q [] = refl
forgets n p q (l ∷ ls) = refl

-- the parts of a job with their places are its lines

lines-placed : (at : ℕ) (ps : List (List ℕ)) → map (λ (q : Placed). q.bytes) (placed at ps) ≡ ps
lines-placed at [] = refl
lines-placed at (p ∷ ps) = ap (λ qs. p ∷ qs) (lines-placed (at + length p + 1) ps)

pub lines_placed : (job : List ℕ) → map (λ (q : Placed). q.bytes) (placed 0 (parts 10 job)) ≡ parts 10 job
lines_placed job = lines-placed 0 (parts 10 job)

pub lines_few : (job : List ℕ) → length (placed 0 (parts 10 job)) ≤ length job + 1
lines_few job = omega (arith, ap length (lines_placed job), length-map (placed 0 (parts 10 job)) (λ (q : Placed). q.bytes), length-parts 10 job, tally-bound 10 job)

-- a job that is not too long
pub short : (job : List ℕ) (p : Page) (r : Read) → length job ≤ 60000 → r ≡ read_lines p (parts 10 job) → r ≡ job_read p job
short job p r h e = e ∙ sym (ap (λ t. cond t (record { page = p; fault = Some (record { line = 0; fault = JobTooLong }) }) (read_lines p (parts 10 job))) (le-ltb 60000 (length job) h))

-- the fault of a line, by its number
abbrev pub fault_at : {X : Type 0} → ℕ → Result X TextFault → Result X JobFault
fault_at n (Ok x) = Ok x
fault_at n (Err f) = Err (record { line = n; fault = f })

pub line_refused : (job : List ℕ) (start p q : Page) (n k : ℕ) (l : List ℕ) (ls : List (List ℕ)) (r : Result (Unit {0}) TextFault) (j : JobFault) → length job ≤ 60000 → read_on n p (Ok p) (l ∷ ls) ≡ read_lines start (parts 10 job) → k ≡ n + 1 → fault_at k r ≡ Err j → refused_by r ≡ fault_in (line_read p l) → q ≡ page_or p (line_read p l) → (◌≡◌ {A = Read} (record { page = p; fault = Some j }) (job_read start job)) × (q ≡ p)
line_refused job start p q n k l ls (Ok x) j h so at told e g = let z : ◌≡◌ {A = ℕ} 0 1 = cc in absurd (omega arith)
line_refused job start p q n k l ls (Err f) j h so at told e g =
    let w = was-refused p q (line_read p l) f e g in
    let here : read_on n p (Ok p) (l ∷ ls) ≡ record { page = p; fault = Some (record { line = n + 1; fault = f }) } = ap (λ x. read_on (n + 1) p x ls) w.0 in
    let same : ◌≡◌ {A = JobFault} (record { line = n + 1; fault = f }) j = ap (λ m. record { line = m; fault = f }) (sym at) ∙ cc in
    (short job start (record { page = p; fault = Some j }) h (ap (λ x. record { page = p; fault = Some x }) (sym same) ∙ sym here ∙ so), w.1)
