-- The first fault found is that of the lowest cell that has one, and the highest table found is the highest.
use Rattle.std.proofs.Common.{◌≡◌, ℕ, zero, suc, ◌+◌, ◌<◌, ◌≤◌, Bool, true, false, cond, List, [], ◌∷◌, length, get_or, drop, Some, None, Option, sym, refl, ap, ◌∙◌, ap₂, arith}
use Rattle.std.specs.List.{slice_get}
use Rattle.fault.specs.declared.Fault.{Fault}
use Rattle.plan.specs.declared.record.Cell.{Cell}
use Rattle.plan.specs.declared.record.Table.{Table}
use Rattle.laid.specs.Views.{seen}
use Rattle.laid.specs.Layout.{first_fault, highest, or_else}
use Rattle.std.proofs.lemmas.List.{drop_more, drop_all}
use Rattle.plan.specs.Blank.{blank_cell}

-- ---- the first fault

module _ (f : ℕ → Cell → Option Fault) where
  -- f finds no fault in any cell
  abbrev pub Clean : ℕ → List Cell → Type 0
  Clean i cs = (k : ℕ) (c : Cell) → slice_get cs k ≡ Some c → f (i + k) c ≡ None

  -- the cells from the next one on
  clean_next : (i : ℕ) (c : Cell) (cs : List Cell) → f i c ≡ None → Clean (suc i) cs → Clean i (c ∷ cs)
  clean_next i c cs o h zero d e = let s : c ≡ d = cc in ap₂ f (omega arith) (sym s) ∙ o
  clean_next i c cs o h (suc k) d e = ap (λ n. f n d) (omega arith) ∙ h k d e

  -- the fault x is that of the lowest cell that has one
  pub record Lowest (i : ℕ) (cs : List Cell) (x : Fault) : Type 0 where
    pub at : ℕ
    pub cell : Cell
    pub there : slice_get cs at ≡ Some cell
    pub found : f (i + at) cell ≡ Some x
    pub below : (k : ℕ) (c : Cell) → k < at → slice_get cs k ≡ Some c → f (i + k) c ≡ None

  lowest_next : (i : ℕ) (c : Cell) (cs : List Cell) (x : Fault) → f i c ≡ None → Lowest (suc i) cs x → Lowest i (c ∷ cs) x
  lowest_next i c cs x o h = record {
    at = suc h.at;
    cell = h.cell;
    there = h.there;
    found = ap (λ n. f n h.cell) (omega arith) ∙ h.found;
    below = below;
  }
    where
      below : (k : ℕ) (d : Cell) → k < suc h.at → slice_get (c ∷ cs) k ≡ Some d → f (i + k) d ≡ None
      below zero d l e = let s : c ≡ d = cc in ap₂ f (omega arith) (sym s) ∙ o
      below (suc k) d l e = ap (λ n. f n d) (omega arith) ∙ h.below k d (omega arith) e

  pub none_found : (i : ℕ) (cs : List Cell) → Clean i cs → first_fault f i cs ≡ None
  unfolding first_fault
  none_found i [] h = refl
  none_found i (c ∷ cs) h =
      ap₂ (seen Some) (none_found (suc i) cs (λ k d e. ap (λ n. f n d) (omega arith) ∙ h (suc k) d e)) (ap (λ n. f n c) (omega arith) ∙ h 0 c refl)

  pub found_none : (i : ℕ) (cs : List Cell) → first_fault f i cs ≡ None → Clean i cs
  unfolding first_fault
  found_none i [] e = λ k c h. let z : ◌≡◌ {A = ℕ} 0 1 = cc in absurd (omega arith)
  found_none i (c ∷ cs) e = go (found_none (suc i) cs) (f i c) refl e
    where
      go : (first_fault f (suc i) cs ≡ None → Clean (suc i) cs) → (o : Option Fault) → f i c ≡ o → seen Some (first_fault f (suc i) cs) o ≡ None → Clean i (c ∷ cs)
      go rest None q h = clean_next i c cs q (rest h)
      go rest (Some y) q h = let z : ◌≡◌ {A = ℕ} 0 1 = cc in absurd (omega arith)

  pub found_lowest : (i : ℕ) (cs : List Cell) (x : Fault) → first_fault f i cs ≡ Some x → Lowest i cs x
  unfolding first_fault
  found_lowest i [] x e = let z : ◌≡◌ {A = ℕ} 0 1 = cc in absurd (omega arith)
  found_lowest i (c ∷ cs) x e = go (found_lowest (suc i) cs x) (f i c) refl e
    where
      go : (first_fault f (suc i) cs ≡ Some x → Lowest (suc i) cs x) → (o : Option Fault) → f i c ≡ o → seen Some (first_fault f (suc i) cs) o ≡ Some x → Lowest i (c ∷ cs) x
      go rest None q h = lowest_next i c cs x q (rest h)
      go rest (Some y) q h = record {
        at = 0;
        cell = c;
        there = refl;
        found = ap (λ n. f n c) (omega arith) ∙ (q ∙ h);
        below = λ k d l e2. absurd (omega arith);
      }

-- ---- the highest table

module _ (p : Table → Bool) where
  -- p is true of no table
  abbrev pub Nowhere : List Table → Type 0
  Nowhere ts = (t : ℕ) (b : Table) → slice_get ts t ≡ Some b → p b ≡ false

  nowhere_next : (d : Table) (ts : List Table) → p d ≡ false → Nowhere ts → Nowhere (d ∷ ts)
  nowhere_next d ts r h zero b e = let s : d ≡ b = cc in ap p (sym s) ∙ r
  nowhere_next d ts r h (suc t) b e = h t b e

  -- table k, counted from i on, is the highest that p is true of
  pub record Highest (i : ℕ) (ts : List Table) (k : ℕ) : Type 0 where
    pub at : ℕ
    pub table : Table
    pub number : k ≡ i + at
    pub there : slice_get ts at ≡ Some table
    pub passes : p table ≡ true
    pub above : (u : ℕ) (d : Table) → at < u → slice_get ts u ≡ Some d → p d ≡ false

  pub highest_none : (i : ℕ) (ts : List Table) → highest p i ts ≡ None → Nowhere ts
  unfolding highest
  highest_none i [] e = λ t b h. let z : ◌≡◌ {A = ℕ} 0 1 = cc in absurd (omega arith)
  highest_none i (d ∷ ts) e = go (highest_none (suc i) ts) (highest p (suc i) ts) refl (p d) refl e
    where
      go : (highest p (suc i) ts ≡ None → Nowhere ts) → (o : Option ℕ) → highest p (suc i) ts ≡ o → (b : Bool) → p d ≡ b → or_else o (cond b (Some i) None) ≡ None → Nowhere (d ∷ ts)
      go rest (Some k) q b r h = let z : ◌≡◌ {A = ℕ} 0 1 = cc in absurd (omega arith)
      go rest None q true r h = let z : ◌≡◌ {A = ℕ} 0 1 = cc in absurd (omega arith)
      go rest None q false r h = nowhere_next d ts r (rest q)

  pub highest_some : (i : ℕ) (ts : List Table) (k : ℕ) → highest p i ts ≡ Some k → Highest i ts k
  unfolding highest
  highest_some i [] k e = let z : ◌≡◌ {A = ℕ} 0 1 = cc in absurd (omega arith)
  highest_some i (d ∷ ts) k e = go (highest_some (suc i) ts k) (highest p (suc i) ts) refl (p d) refl e
    where
      higher : (h : Highest (suc i) ts k) (u : ℕ) (x : Table) → suc h.at < u → slice_get (d ∷ ts) u ≡ Some x → p x ≡ false
      higher h zero x l q = absurd (omega arith)
      higher h (suc u) x l q = h.above u x (omega arith) q

      later : Nowhere ts → (u : ℕ) (x : Table) → 0 < u → slice_get (d ∷ ts) u ≡ Some x → p x ≡ false
      later n zero x l q = absurd (omega arith)
      later n (suc u) x l q = n u x q

      go : (highest p (suc i) ts ≡ Some k → Highest (suc i) ts k) → (o : Option ℕ) → highest p (suc i) ts ≡ o → (b : Bool) → p d ≡ b → or_else o (cond b (Some i) None) ≡ Some k → Highest i (d ∷ ts) k
      go rest (Some j) q b r h =
          let s : j ≡ k = cc in
          let w : Highest (suc i) ts k = rest (q ∙ ap Some s) in
          record { at = suc w.at; table = w.table; number = omega (arith, w.number); there = w.there; passes = w.passes; above = higher w }
      go rest None q true r h =
          let s : i ≡ k = cc in
          record { at = 0; table = d; number = omega arith; there = refl; passes = r; above = later (highest_none (suc i) ts q) }
      go rest None q false r h = let z : ◌≡◌ {A = ℕ} 0 1 = cc in absurd (omega arith)

-- ---- found by looking at one cell after another

module _ (f : ℕ → Cell → Option Fault) (cs : List Cell) where
  pub fault_turn : (i : ℕ) → i < length cs → first_fault f i (drop i cs) ≡ seen Some (first_fault f (i + 1) (drop (i + 1) cs)) (f i (get_or cs i blank_cell))
  unfolding first_fault
  fault_turn i h =
      let s : suc i ≡ i + 1 = omega arith in
      ap (first_fault f i) (drop_more cs i blank_cell h) ∙ ap (λ k. seen Some (first_fault f k (drop (i + 1) cs)) (f i (get_or cs i blank_cell))) s

  pub fault_end : (i : ℕ) → length cs ≤ i → first_fault f i (drop i cs) ≡ None
  unfolding first_fault
  fault_end i h = ap (first_fault f i) (drop_all i cs h)
