-- A tariff that is read from a rule and a priced source says what the rule's terms say.
use Rattle.std.proofs.Common.{◌≡◌, ℕ, ◌-◌, ◌≤◌, List, map, length, get_or, pos, refl, ap, ◌∙◌, arith}
use lib.ListN.{length-map}
use Rattle.std.proofs.lemmas.Int.{ints}
use Rattle.std.proofs.lemmas.List.{get_or-map}
use Rattle.entry.specs.declared.range.Range.{Range}
use Rattle.entry.specs.declared.rule.Rule.{Rule}
use Rattle.entry.specs.Rules.{motifs_of, net_of, ranges_of, span_of, width}
use Rattle.source.specs.Meaning.{Meaning, Price, priced}
use Rattle.forecast.specs.declared.value.Forecast.{Forecast}
use Rattle.forecast.specs.Forecasts.{boxes_of, forecast_at}
use Rattle.planner.specs.declared.tariff.Charge.{Charge}
use Rattle.planner.specs.declared.tariff.Width.{Width}
use Rattle.planner.specs.Laws.{Agree}
use Rattle.planner.specs.Orders.{Terms}
use Rattle.planner.specs.Terms.{terms_by}
use Rattle.rules.specs.Nets.{motifs}
use Rattle.walk.specs.Numbered.{motif}
use Rattle.rules.proofs.Numbers.{gaps_of, length_of, motif_of, rule-motifs, rule-range}

touching : Range
touching = record { low = pos 0; high = pos 0; least = omega (arith, ints); ordered = omega (arith, ints); most = omega (arith, ints) }

module _ (M : Meaning) (price : ℕ → Price) (r : Rule) (charges : List Charge) (widths : List Width) (f : Forecast) where
  read : (of : ℕ → ℕ) (i : ℕ) → 1 ≤ i → i ≤ motifs (net_of r) → get_or (map of (motifs_of r)) (i - 1) 0 ≡ of (motif (net_of r) i)
  read of i some within =
      get_or-map of (motifs_of r) (i - 1) 0 0 (omega (arith, length_of r (motifs_of r) refl)) ∙ ap of (motif_of r (motifs_of r) refl i some within)

  abbrev held : Terms
  held =
      record {
        motifs = length charges;
        boxes = boxes_of f;
        look = λ i. get_or (map (λ c. c.look) charges) (i - 1) 0;
        opening = λ i. get_or (map (λ c. c.opening) charges) (i - 1) 0;
        width = λ k. get_or (map (λ w. w.places) widths) (k - 1) 0;
        forecast = forecast_at f;
      }

  pub tariff_agrees : map (λ c. c.look) charges ≡ map (λ m. (price m).look) (motifs_of r) → map (λ c. c.opening) charges ≡ map (λ m. (price m).opening) (motifs_of r) → map (λ w. w.places) widths ≡ map (λ g. width (span_of g)) (ranges_of r) → Agree held (terms_by (priced M price) (net_of r) f)
  tariff_agrees look opening wide =
      let many : length charges ≡ motifs (net_of r) =
      omega (arith, ap length look, length-map charges (λ (c : Charge). c.look), length-map (motifs_of r) (λ m. (price m).look), length_of r (motifs_of r) refl) in
      record {
        motifs = many;
        boxes = refl;
        look = λ i some within. ap (λ xs. get_or xs (i - 1) 0) look ∙ read (λ m. (price m).look) i some (omega (arith, many));
        opening = λ i some within. ap (λ xs. get_or xs (i - 1) 0) opening ∙ read (λ m. (price m).opening) i some (omega (arith, many));
        width = λ k some within.
            ap (λ xs. get_or xs (k - 1) 0) wide
            ∙ get_or-map (λ g. width (span_of g)) (ranges_of r) (k - 1) touching 0 (omega (arith, many, gaps_of r (ranges_of r) refl))
            ∙ ap width (rule-range r k touching some (omega (arith, many, rule-motifs r)));
        forecast = λ i j some le within. refl;
      }
