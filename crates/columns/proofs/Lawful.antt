-- The pass, the offers and the rows are lawful, and no raise lowers a column.
-- Assumes nothing.
use Rattle.std.proofs.Common.{◌≡◌, ℕ, zero, suc, ◌≤◌, max, true, List, length, get_or, replicate, sym, refl, ap, ◌∙◌, le_refl, arith}
use lib.ListN.{length-replicate}
use Rattle.std.specs.List.{AllByRecursion}
use Rattle.std.proofs.ByRecursion.{All-weaker, All-get_or}
use Rattle.std.proofs.lemmas.List.{length-map}
use Rattle.std.proofs.lemmas.Bool.{false≢true}
use Rattle.plan.specs.declared.record.Column.{Column}
use Rattle.plan.specs.declared.record.Sizing.{Sizing}
use Rattle.plan.specs.declared.record.Sizing.TheVariants.{Free, Fixed}
use Rattle.plan.specs.Blank.{blank_column}
use Rattle.columns.specs.Columns.{leasts, greatests, free, is_free, fixed_at, pass}
use Rattle.columns.specs.Tracks.{extent}
use Rattle.columns.specs.Wants.{Want}
use Rattle.columns.specs.Laws.{Fits, Spares, own_minimum, Lawful, Rising, Offered, Stacked}
use Rattle.columns.proofs.Grown.{Grown, none, more, grown_one, grown_span}
use Rattle.columns.proofs.Served.{minimums_are_met, columns_stay, sizings_stay}
use Rattle.columns.proofs.Wide.{Widened, same, more_wide, widened_one, widened_span, maximums_are_met}
use Rattle.columns.proofs.Ordered.{columns_are_ordered}
use Rattle.columns.proofs.Settled.{fixed_are_settled}
use Rattle.columns.proofs.Exact.{exact_least}
use Rattle.columns.proofs.Rows.{rows_are_columns, rows_have_room, rows_are_some}
use Rattle.columns.proofs.Offer.{length_widths, offer_is_filled, widths_stay_between, offer_short, offer_met, offer_is_fair}

free_at : (z : Sizing) → is_free z ≡ true → fixed_at z ≡ 0
free_at Free e = refl
free_at (Fixed f) e = absurd (false≢true e)

zero_max : (n : ℕ) → max 0 n ≡ n
zero_max n = omega arith

pub columns_are_lawful : (q : ℕ) (cols : List Column) (xs : List Want) → AllByRecursion (Fits 31 (length cols)) xs → Lawful q cols xs
columns_are_lawful q cols xs fits =
    record {
      many = columns_stay 31 q cols xs;
      sized = sizings_stay 31 q cols xs;
      met = minimums_are_met 31 q cols xs fits;
      wide = maximums_are_met 31 q cols xs fits;
      ordered = columns_are_ordered 31 q cols xs;
      settled = fixed_are_settled 31 q cols xs;
      exact = λ j h s. exact_least q j 31 cols xs h fits s;
      plain = λ ones frees j h.
          let s = All-weaker (λ (x : Want). x.span ≡ 1) (Spares cols j) (λ x e two. absurd (omega arith)) xs ones in
          let z = free_at (get_or cols j blank_column).sizing (All-get_or (λ c. free c ≡ true) cols j blank_column h frees) in
          exact_least q j 31 cols xs h fits s ∙ ap (λ n. max n (own_minimum j xs)) z ∙ zero_max (own_minimum j xs);
    }

pub offers_are_lawful : (q : ℕ) (cs : List Column) (A : ℕ) → Offered q cs A
offers_are_lawful q cs A =
    record {
      many = length_widths q cs A;
      filled = offer_is_filled q cs A;
      between = widths_stay_between q cs A;
      short = offer_short q cs A;
      ample = offer_met q cs A;
      fair = offer_is_fair q cs A;
    }

no_less : {cs ds : List Column} → Grown cs ds → (j : ℕ) → get_or (leasts cs) j 0 ≤ get_or (leasts ds) j 0
no_less none j = le_refl 0
no_less (more h t) zero = h.0
no_less (more h t) (suc j) = no_less t j

no_narrower : {cs ds : List Column} → Widened cs ds → (j : ℕ) → get_or (greatests cs) j 0 ≤ get_or (greatests ds) j 0
no_narrower same j = le_refl 0
no_narrower (more_wide h t) zero = h
no_narrower (more_wide h t) (suc j) = no_narrower t j

pub raises_never_lower : (q : ℕ) → Rising q
raises_never_lower q =
    record {
      one = λ x cs j. record { least = no_less (grown_one x cs) j; greatest = no_narrower (widened_one x cs) j };
      span = λ x cs settled j. record { least = no_less (grown_span q x cs) j; greatest = no_narrower (widened_span q x cs settled) j };
    }

pub rows_are_stacked : (q n : ℕ) (xs : List Want) → AllByRecursion (Fits 63 n) xs → Stacked q n xs
unfolding extent
rows_are_stacked q n xs fits =
    let cols : List Column = replicate n blank_column in
    record {
      many = ap length (sym (rows_are_columns q n xs)) ∙ length-map (pass 63 q cols xs) (λ (c : Column). c.least) ∙ columns_stay 63 q cols xs ∙ length-replicate n blank_column;
      room = rows_have_room q n xs fits;
      some = rows_are_some q n xs;
    }
