use Rattle.std.proofs.Common.{◌≡◌, ℕ, List, [], ◌++◌, take, Some, None, IfSome, Option}
use Rattle.std.specs.Option.{option_map}
use Rattle.listing.proofs.input.read_input.Goals as goal

-- what is known of the part that is read, said of the whole
of_part : (o : Option (List ℕ)) (n : ℕ) (start job : List ℕ) → start ≡ [] → IfSome (option_map (take n) o) (λ part. job ≡ start ++ part) → IfSome o (λ bytes. job ≡ take n bytes)
of_part None n start job e h = tt
of_part (Some bytes) n start job e h = rw e at h

pub returns : goal.returns
returns g c =
    of_part (g.R.Read.remaining c.args.stream) 60001 c.new-job.result.items c.read_to_end.new.buf.items c.new-job.ensures.items (rw (← c.take.ensures.inner, ← c.take.ensures.limit) c.in_ok-read_to_end.ensures.bytes)
