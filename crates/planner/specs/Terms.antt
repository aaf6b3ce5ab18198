-- What goes into the prices of a rule's orders: as a source and a forecast say it, and as a tariff holds it.
use Rattle.std.specs.Prelude.{ℕ, ◌+◌, ◌-◌, map, length, slice_index}
use Rattle.few.specs.Few.{entries}
use Rattle.entry.specs.Rules.{Net, width}
use Rattle.source.specs.Meaning.{Priced}
use Rattle.walk.specs.Numbered.{motif, range}
use Rattle.forecast.specs.declared.value.Forecast.{Forecast}
use Rattle.forecast.specs.Forecasts.{boxes_of, forecast_at}
use Rattle.planner.specs.declared.price.Pricing.{Pricing}
use Rattle.planner.specs.declared.tariff.Tariff.{Tariff}
use Rattle.planner.specs.Orders.{Terms}

-- `terms_by P r f`   the prices of the rule's motifs by P, the widths of its ranges, and the forecast
abbrev pub terms_by : Priced → Net → Forecast → Terms
terms_by P r f =
    record {
      motifs = length r.rest + 1;
      boxes = boxes_of f;
      look = λ i. P.look (motif r i);
      opening = λ i. P.opening (motif r i);
      width = λ k. width (range r k);
      forecast = forecast_at f;
    }

abbrev pub motifs_in : Tariff → ℕ
motifs_in t = length (entries t.charges)

abbrev pub look_of : Tariff → ℕ → ℕ
look_of t i = slice_index (map (λ c. c.look) (entries t.charges)) (i - 1)

abbrev pub opening_of : Tariff → ℕ → ℕ
opening_of t i = slice_index (map (λ c. c.opening) (entries t.charges)) (i - 1)

abbrev pub width_of : Tariff → ℕ → ℕ
width_of t k = slice_index (map (λ w. w.places) (entries t.widths)) (k - 1)

abbrev pub terms_of : Tariff → Forecast → Terms
terms_of t f =
    record {
      motifs = motifs_in t;
      boxes = boxes_of f;
      look = look_of t;
      opening = opening_of t;
      width = width_of t;
      forecast = forecast_at f;
    }

-- `terms p`     what a tariff and a forecast beside it say
abbrev pub terms : Pricing → Terms
terms p = terms_of p.tariff.now p.forecast.now
