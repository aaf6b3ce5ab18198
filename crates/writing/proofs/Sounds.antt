-- Joined words are sound where each of them is.
use Rattle.std.proofs.Common.{◌≡◌, ℕ, ◌+◌, Bool, true, false, not, eqb, List, [], ◌∷◌, ◌++◌, length, None, sym, refl, ap, ◌∙◌, subst, append_assoc}
use Rattle.std.proofs.lemmas.List.{append-nil}
use Rattle.std.proofs.lemmas.Bool.{and_parts, and_right, not_from_true}
use Rattle.std.proofs.lemmas.List.Splits.{slice_split-cons_no, slice_split-cons_yes}
use Rattle.std.specs.List.{AllByRecursion}
use Rattle.refusal.specs.Checks.{refuse}
use Rattle.std.specs.List.{list_all, onto_first}
use Rattle.word.specs.Runs.{fault_from, first_fault_of, runs}
use Rattle.writing.specs.Joined.{behind}

module _ (part : ℕ → Bool) (sound : List ℕ → Bool) where
  -- a word of bytes of the sort, which is sound
  abbrev pub Good : List ℕ → Type 0
  Good w = (list_all part w ≡ true) × (sound w ≡ true)

  -- a text without fault, where no byte of the sort stands before it
  abbrev pub Start : List ℕ → Type 0
  Start v = (at : ℕ) → fault_from sound at (runs part v) ≡ None

  -- a text without fault that goes on with no word, whatever stands before it
  pub record Edge (v : List ℕ) : Type 0 where
    pub rest : List (List ℕ)
    pub stops : runs part v ≡ [] ∷ rest
    pub clean : (at : ℕ) → fault_from sound at rest ≡ None

  pub edge_end : Edge []
  edge_end = record { rest = []; stops = refl; clean = λ at. refl }

  pub edge_start : (v : List ℕ) → Edge v → Start v
  edge_start v e at = ap (fault_from sound at) e.stops ∙ e.clean (at + 0 + 1)

  -- a byte of another sort
  pub edge_byte : (b : ℕ) (v : List ℕ) → part b ≡ false → Start v → Edge (b ∷ v)
  edge_byte b v gap s = record { rest = runs part v; stops = slice_split-cons_yes (λ c. not (part c)) b v (ap not gap); clean = s }

  word-run : (w v : List ℕ) → list_all part w ≡ true → (e : Edge v) → runs part (w ++ v) ≡ w ∷ e.rest
  word-run [] v h e = e.stops
  word-run (b ∷ w) v h e =
      let k = and_parts (part b) (list_all part w) h in
      slice_split-cons_no (λ c. not (part c)) b (w ++ v) (ap not k.0) ∙ ap (onto_first b) (word-run w v k.1 e)

  -- a sound word
  pub start_word : (w v : List ℕ) → Good w → Edge v → Start (w ++ v)
  start_word w v g e at =
      ap (fault_from sound at) (word-run w v g.0 e)
      ∙ ap (λ t. refuse t at (fault_from sound (at + length w + 1) e.rest)) (and_right (not (eqb (length w) 0)) (not (sound w)) (not_from_true (sound w) g.1))
      ∙ e.clean (at + length w + 1)

  -- joined words, and what follows them
  module _ (gap : part 32 ≡ false) where
    edge_words : (ws : List (List ℕ)) (v : List ℕ) → AllByRecursion Good ws → Edge v → Edge (behind 32 ws ++ v)
    edge_words [] v a e = e
    edge_words (w ∷ ws) v a e =
        edge_byte 32 ((w ++ behind 32 ws) ++ v) gap (subst Start (sym (append_assoc w (behind 32 ws) v)) (start_word w (behind 32 ws ++ v) a.0 (edge_words ws v a.1 e)))

    pub start_words : (w : List ℕ) (ws : List (List ℕ)) (v : List ℕ) → Good w → AllByRecursion Good ws → Edge v → Start ((w ++ behind 32 ws) ++ v)
    start_words w ws v g a e = subst Start (sym (append_assoc w (behind 32 ws) v)) (start_word w (behind 32 ws ++ v) g (edge_words ws v a e))

    pub joined-sound : (w : List ℕ) (ws : List (List ℕ)) → Good w → AllByRecursion Good ws → first_fault_of part sound (w ++ behind 32 ws) ≡ None
    joined-sound w ws g a = subst Start (append-nil (w ++ behind 32 ws)) (start_words w ws [] g a edge_end) 0
