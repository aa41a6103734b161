-- The widths that the code gives are those that the offer gives.
-- Assumes nothing.
use Rattle.std.proofs.Common.{◌≡◌, ℕ, ◌+◌, ◌-◌, ◌*◌, ◌<◌, ◌≤◌, List, [], ◌∷◌, map, length, sym, refl, ap, ◌∙◌, arith}
use Rattle.std.proofs.lemmas.Bool.{cond-true, cond-false, le-leb, lt-leb}
use Rattle.share.specs.Share.{total, brings, parts_from, parts}
use Rattle.plan.specs.declared.record.Column.{Column}
use Rattle.columns.specs.Columns.{leasts, greatests, spreads, sums, with_parts, widths_of, least_width, greatest_width}
use Rattle.measure.specs.declared.column.Bound.{Bound}
use Rattle.measure.specs.declared.column.Bound.TheVariants.{Least, Greatest}
use Rattle.measure.specs.Bounds.{bound_of}
use Rattle.measure.specs.Widths.{as_wide, with_widths, given_of}
use Rattle.columns.proofs.Offer.{offer_short}

abbrev pub spread : Column → ℕ
spread c = c.greatest - c.least

-- a column p wider than its least
abbrev pub past : ℕ → Column → Column
past p c = as_wide (c.least + p) c

-- columns with their parts past their leasts
widened : (W D k : ℕ) (cs : List Column) → with_parts past (parts_from W D k (spreads cs)) cs ≡ with_widths (sums (leasts cs) (parts_from W D k (spreads cs))) cs
unfolding with_parts sums parts_from
widened W D k [] = refl
widened W D k (c ∷ cs) = ap (λ ds. past (brings W D (k + spread c) - brings W D k) c ∷ ds) (widened W D (k + spread c) cs)

pub settled_all : (b : Bound) (cs : List Column) → map (λ c. as_wide (bound_of b c) c) cs ≡ with_widths (map (bound_of b) cs) cs
settled_all b [] = refl
settled_all b (c ∷ cs) = ap (λ ds. as_wide (bound_of b c) c ∷ ds) (settled_all b cs)

-- what is offered between the least and the greatest is at most the spreads
pub room : (cs : List Column) → total (greatests cs) ≤ total (leasts cs) + total (spreads cs)
room [] = omega arith
room (c ∷ cs) = omega (arith, room cs)

module _ (q A : ℕ) (cs ds : List Column) where
  pub gives_least : A ≤ least_width q cs → ds ≡ map (λ c. as_wide (bound_of Least c) c) cs → ds ≡ given_of q A cs
  gives_least h e = e ∙ settled_all Least cs ∙ sym (ap (λ ws. with_widths ws cs) (offer_short q cs A h))

  pub gives_greatest : least_width q cs < A → greatest_width q cs ≤ A → ds ≡ map (λ c. as_wide (bound_of Greatest c) c) cs → ds ≡ given_of q A cs
  unfolding widths_of
  gives_greatest l h e =
      e ∙ settled_all Greatest cs
      ∙ sym (ap (λ ws. with_widths ws cs) (cond-false _ _ _ (lt-leb A (least_width q cs) l) ∙ cond-true _ _ _ (le-leb (greatest_width q cs) A h)))

  pub gives_between : (n : ℕ) → n ≡ total (leasts cs) → least_width q cs < A → A < greatest_width q cs →
      ds ≡ with_parts past (parts (A - (n + q * (length cs + 1))) (spreads cs)) cs → ds ≡ given_of q A cs
  unfolding widths_of
  gives_between n en l h e =
      e ∙ widened (A - (n + q * (length cs + 1))) _ 0 cs ∙ ap (λ m. with_widths (sums (leasts cs) (parts (A - (m + q * (length cs + 1))) (spreads cs))) cs) en
      ∙ sym (ap (λ ws. with_widths ws cs) (cond-false _ _ _ (lt-leb A (least_width q cs) l) ∙ cond-false _ _ _ (lt-leb (greatest_width q cs) A h)))
