-- What the layout accepts fits, and what it refuses it refuses rightly.
use Rattle.std.proofs.Common.{◌≡◌, ℕ, ◌+◌, ◌≤◌, Bool, true, false, cond, ltb, List, Some, None, Ok, Err, Option, Result, sym, refl, ap, ◌∙◌, subst, arith}
use Rattle.std.specs.List.{slice_get}
use Rattle.std.proofs.lemmas.Bool.{ltb-true, ltb-false, le-ltb, or_from, cond-true, cond-false}
use Rattle.fault.specs.Numbers.{fault}
use Rattle.fault.specs.declared.Fault.{Fault}
use Rattle.fault.specs.declared.Reason.{Reason}
use Rattle.fault.specs.declared.Reason.TheVariants.{NotOnShelf, TooWide, TooTall, UnfitWidth}
use Rattle.shelf.specs.Shelves.{Meaning, Fitting, widest}
use Rattle.shelf.specs.Answers.{misfits}
use Rattle.plan.specs.declared.record.Cell.{Cell}
use Rattle.plan.specs.declared.record.Holds.{Holds}
use Rattle.plan.specs.declared.record.Holds.TheVariants.{Content, Inner}
use Rattle.plan.specs.declared.record.Table.{Table}
use Rattle.plan.specs.Planned.{Planned}
use Rattle.columns.specs.Columns.{least_width}
use Rattle.columns.specs.Tables.{own_columns, heights}
use Rattle.columns.specs.Tracks.{whole}
use Rattle.laid.specs.Views.{cell_width}
use Rattle.laid.specs.Layout.{off_shelf, unfit, missing, misfit, highest, too_wide, too_tall, tallest, named, Lists, unless, layout, all_measured, all_widened, all_stacked, all_put, clear_cell}
use Rattle.laid.specs.Fits.{Shelved, Narrow, Low}
use Rattle.laid.specs.Laws.{Lays, IsTooWide, IsTooTall, Refused}
use Rattle.laid.proofs.Boxes.{inner_tall, boxes_are}
use Rattle.laid.proofs.Faults.{none_found, found_none, found_lowest, highest_none, highest_some}
use Rattle.laid.proofs.Final as pass
use Rattle.laid.proofs.Kept.{planned_kept}
use Rattle.laid.proofs.Plans.{Good, good}
use Rattle.laid.proofs.Twins.{twin}
use Rattle.laid.proofs.Widths.{contents_settable, widths_small, inner_wide}

-- ---- what the checks tell

on_shelf : (m : Meaning) (i : ℕ) (h : Holds) (k : ℕ) → off_shelf m i h ≡ None → h ≡ Content k → m.has k ≡ true
on_shelf m i h k e q = go (m.has k) (subst (λ z. off_shelf m i z ≡ None) q e)
  where
    go : (b : Bool) → cond b None (Some (fault NotOnShelf i)) ≡ None → b ≡ true
    go true e2 = refl
    go false e2 = let z : ◌≡◌ {A = ℕ} 0 1 = cc in absurd (omega arith)

-- a content that is off the shelf, and the fault then
off : (m : Meaning) (i : ℕ) (h : Holds) (f : Fault) → off_shelf m i h ≡ Some f → (k : ℕ) × (h ≡ Content k) × (m.has k ≡ false) × (fault NotOnShelf i ≡ f)
off m i (Inner u) f e = let z : ◌≡◌ {A = ℕ} 0 1 = cc in absurd (omega arith)
off m i (Content k) f e = let r = go (m.has k) e in (k, refl, r.0, r.1)
  where
    go : (b : Bool) → cond b None (Some (fault NotOnShelf i)) ≡ Some f → (b ≡ false) × (fault NotOnShelf i ≡ f)
    go true e2 = let z : ◌≡◌ {A = ℕ} 0 1 = cc in absurd (omega arith)
    go false e2 = let s : fault NotOnShelf i ≡ f = cc in (refl, s)

-- what can be set at its width is no misfit
settable : (m : Meaning) (w i : ℕ) (h : Holds) → ((k : ℕ) → h ≡ Content k → Fitting m k w) → unfit m w i h ≡ None
settable m w i (Inner u) e = refl
settable m w i (Content k) e =
    let f = e k refl in
    cond-true (m.has k) (cond (misfits m k w) (Some (fault UnfitWidth i)) None) (Some (fault NotOnShelf i)) f.there
    ∙ cond-false (misfits m k w) (Some (fault UnfitWidth i)) None
    (or_from (ltb w (m.minimum k)) (ltb widest w) (le-ltb w (m.minimum k) f.enough) (le-ltb widest w f.small))

unless_ok : (o : Option Fault) (r : Result Lists Fault) (s : Lists) → unless o r ≡ Ok s → (o ≡ None) × (r ≡ Ok s)
unless_ok None r s e = (refl, e)
unless_ok (Some f) r s e = let z : ◌≡◌ {A = ℕ} 0 1 = cc in absurd (omega arith)

named_none : (why : Reason) (o : Option ℕ) → named why o ≡ None → o ≡ None
named_none why None e = refl
named_none why (Some t) e = let z : ◌≡◌ {A = ℕ} 0 1 = cc in absurd (omega arith)

module _ (m : Meaning) (A : ℕ) (ts : List Table) (cs : List Cell) (small : A ≤ widest) (p : Planned ts cs) where
  abbrev g : Good ts cs
  g = good ts cs p

  -- the tables after each pass, and the cells
  abbrev one : List Table
  one = all_measured m ts cs

  abbrev two : List Table
  two = all_widened A one cs

  abbrev three : List Table
  three = all_stacked m two cs

  abbrev ends : List Cell
  ends = all_put three cs

  -- ---- nothing is missing

  missing_at : (f : Fault) → missing m cs ≡ Some f → Refused m A ts cs f
  missing_at f e =
      let h = found_lowest (λ i (c : Cell). off_shelf m i c.holds) 0 cs f e in
      let o = off m (0 + h.at) h.cell.holds f h.found in
      let q : h.at ≡ 0 + h.at = omega arith in
      subst (Refused m A ts cs) (ap (fault NotOnShelf) q ∙ o.3) (record {
        cell = h.cell;
        content = o.0;
        there = h.there;
        holds_it = o.1;
        not_shelved = o.2;
        lowest = λ k l c x r w. on_shelf m (0 + k) c.holds x (h.below k c l r) w;
      })

  module _ (none_missing : missing m cs ≡ None) where
    shelved : (i : ℕ) → Shelved m cs i
    shelved i c k e h = on_shelf m (0 + i) c.holds k (found_none (λ j (d : Cell). off_shelf m j d.holds) 0 cs none_missing i c e) h

    -- ---- nothing is too wide

    narrow_at : (t : ℕ) → ((b : Table) → slice_get one t ≡ Some b → too_wide b ≡ false) → Narrow one t
    narrow_at t h b e = ltb-false widest (least_width b.spacing (own_columns b)) (h b e)

    wide_at : (t : ℕ) → highest too_wide 0 one ≡ Some t → IsTooWide m ts cs t
    wide_at t e =
        let h = highest_some too_wide 0 one t e in
        let q : t ≡ h.at = omega (arith, h.number) in
        record {
          shelved = shelved;
          tables = one;
          same = pass.same_one m A ts cs g;
          columns = pass.columns_one m A ts cs g;
          table = h.table;
          there = ap (slice_get one) q ∙ h.there;
          over = ltb-true widest (least_width h.table.spacing (own_columns h.table)) h.passes;
          highest = λ u l. narrow_at u (λ b k. h.above u b (omega arith) k);
        }

    module _ (none_wide : highest too_wide 0 one ≡ None) where
      narrow_one : (t : ℕ) → Narrow one t
      narrow_one t = narrow_at t (highest_none too_wide 0 one none_wide t)

      -- ---- every content can be set

      good_two : Good two cs
      good_two = good two cs (planned_kept ts two cs cs (pass.same_two m A ts cs g) refl p)

      none_unfit : misfit m two cs ≡ None
      none_unfit =
          none_found (λ i (c : Cell). unfit m (cell_width two c) i c.holds) 0 cs (λ i c e. settable m (cell_width two c) (0 + i) c.holds (λ k h.
          contents_settable A two cs good_two m small (λ t. pass.narrow_two m A ts cs g t (narrow_one t)) (pass.widths_two m A ts cs g) (pass.columns_two m A ts cs g)
          i c k e h (shelved i c k e h)))

      -- ---- nothing is too tall

      narrow : (t : ℕ) → Narrow three t
      narrow t = pass.narrow_three m A ts cs g t (narrow_one t)

      low_at : (t : ℕ) → ((b : Table) → slice_get three t ≡ Some b → too_tall b ≡ false) → Low three t
      low_at t h b e = ltb-false tallest (whole b.spacing (heights b)) (h b e)

      tall_at : (t : ℕ) → highest too_tall 0 three ≡ Some t → IsTooTall m A ts cs t
      tall_at t e =
          let h = highest_some too_tall 0 three t e in
          let q : t ≡ h.at = omega (arith, h.number) in
          record {
            shelved = shelved;
            tables = three;
            same = pass.same_three m A ts cs g;
            narrow = narrow;
            fit = pass.fits_three m A ts cs g;
            table = h.table;
            there = ap (slice_get three) q ∙ h.there;
            over = ltb-true tallest (whole h.table.spacing (heights h.table)) h.passes;
            highest = λ u l. low_at u (λ b k. h.above u b (omega arith) k);
          }

      -- ---- accepted

      module _ (none_tall : highest too_tall 0 three ≡ None) where
        low : (t : ℕ) → Low three t
        low t = low_at t (highest_none too_tall 0 three none_tall t)

        good_end : Good three ends
        good_end = good three ends (planned_kept ts three cs ends (pass.same_three m A ts cs g) (pass.same_cells m A ts cs g) p)

        accepted : Lays m A ts cs (record { tables = three; cells = ends })
        accepted =
            let fit = pass.fits_ends m A ts cs g in
            let widths_are = λ (t : ℕ) (b : Table) (e : slice_get three t ≡ Some b). (fit t b e).widths_fit in
            let columns_are = λ (t : ℕ) (b : Table) (e : slice_get three t ≡ Some b). (fit t b e).columns_fit in
            record {
              tables_same = pass.same_three m A ts cs g;
              cells_same = pass.same_cells m A ts cs g;
              fits = record {
                shelved = λ i z k e h.
                    let w = twin clear_cell ends cs (pass.same_cells m A ts cs g) i z e in
                    shelved i w.0 k w.1 (sym (ap (λ (c : Cell). c.holds) w.2) ∙ h);
                narrow = narrow;
                low = low;
                tables_fit = fit;
                boxes_fit = boxes_are three ends good_end (widths_small A three ends good_end m small narrow widths_are columns_are) low
                    (inner_wide A three ends good_end m small narrow widths_are columns_are) (inner_tall m three ends good_end low (λ t b e. (fit t b e).heights_fit))
                    (pass.box_kept m A ts cs g);
              };
            }

  refused : (f : Fault) (x : Option Fault) (y : Option ℕ) (w : Option Fault) (z : Option ℕ) →
      missing m cs ≡ x → highest too_wide 0 one ≡ y → misfit m two cs ≡ w → highest too_tall 0 three ≡ z →
      unless {A = Lists} x (unless (named TooWide y) (unless w (unless (named TooTall z) (Ok (record { tables = three; cells = ends }))))) ≡ Err f → Refused m A ts cs f
  refused f (Some k) y w z ex ey ew ez e = let s : k ≡ f = cc in missing_at f (ex ∙ ap Some s)
  refused f None (Some t) w z ex ey ew ez e = let s : fault TooWide t ≡ f = cc in subst (Refused m A ts cs) s (wide_at ex t ey)
  refused f None None (Some k) z ex ey ew ez e =
      let n = none_unfit ex ey in
      let no : ◌≡◌ {A = ℕ} 0 1 = cc in absurd (omega arith)
  refused f None None None (Some t) ex ey ew ez e = let s : fault TooTall t ≡ f = cc in subst (Refused m A ts cs) s (tall_at ex ey t ez)
  refused f None None None None ex ey ew ez e = let no : ◌≡◌ {A = ℕ} 0 1 = cc in absurd (omega arith)

pub layout_fits : (m : Meaning) (A : ℕ) (ts : List Table) (cs : List Cell) (s : Lists) → A ≤ widest → Planned ts cs → layout m A ts cs ≡ Ok s → Lays m A ts cs s
unfolding layout
layout_fits m A ts cs s small p e =
    let a = unless_ok (missing m cs) _ s e in
    let b = unless_ok (named TooWide (highest too_wide 0 (one m A ts cs small p))) _ s a.1 in
    let c = unless_ok (misfit m (two m A ts cs small p) cs) _ s b.1 in
    let d = unless_ok (named TooTall (highest too_tall 0 (three m A ts cs small p))) _ s c.1 in
    let k = d.1 in
    let is : record { tables = three m A ts cs small p; cells = ends m A ts cs small p } ≡ s = cc in
    subst (Lays m A ts cs) is (accepted m A ts cs small p a.0 (named_none TooWide _ b.0) (named_none TooTall _ d.0))

pub layout_refuses : (m : Meaning) (A : ℕ) (ts : List Table) (cs : List Cell) (f : Fault) → A ≤ widest → Planned ts cs → layout m A ts cs ≡ Err f → Refused m A ts cs f
unfolding layout
layout_refuses m A ts cs f small p e =
    refused m A ts cs small p f (missing m cs) (highest too_wide 0 (one m A ts cs small p)) (misfit m (two m A ts cs small p) cs) (highest too_tall 0 (three m A ts cs small p)) refl refl refl refl e
