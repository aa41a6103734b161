-- Where cells stand: what each change of the lists keeps.
use Rattle.std.proofs.Common.{◌≡◌, ℕ, ◌+◌, ◌<◌, ◌≤◌, true, false, eqb, List, [], ◌∷◌, ◌++◌, length, get_or, take, set, replicate, Some, sym, refl, ap, ◌∙◌, subst, inl, inr, arith, length-set}
use lib.ListN.{get_or-replicate}
use lib.Seq.{take-append-le}
use Rattle.std.specs.List.{slice_get}
use Rattle.std.proofs.lemmas.List.{length_push, take_all}
use Rattle.std.proofs.lemmas.Bool.{cases_lt, cases_order, le-leb, leb-true, ne_eqb, eq-eqb, both_ways}
use Rattle.std.proofs.lemmas.Bool.Decides.{nat_tests}
use Rattle.plan.specs.declared.record.Cell.{Cell}
use Rattle.plan.specs.declared.record.Holds.{Holds}
use Rattle.plan.specs.declared.record.Table.{Table}
use Rattle.plan.specs.Blank.{blank_table}
use Rattle.plan.specs.Steps.{columns_of, current_row, new_cell, with_cell}
use Rattle.plan.specs.Taken.{open_at}
use Rattle.plan.proofs.Raised.{length_raised, raised_in, raised_out}
use Rattle.plan.specs.Cells.{takes, free_in}
use Rattle.plan.specs.Planned.{Apart, CameLowest, Within, Able}
use Rattle.std.proofs.lemmas.Option.{slice_get_within}
use Rattle.runs.proofs.Lists.{nth_push, nth_set, nth_take}
use Rattle.runs.proofs.Free.{free_push, not_free, all_free}

-- the record of taken columns tells of the current row and all rows below what the cells tell
abbrev pub Tied : List Cell → ℕ → Table → Type 0
Tied cs t b = (r j : ℕ) → current_row b ≤ r → j < columns_of b → open_at b.taken r j ≡ free_in cs t r j

pub record Standing (ts : List Table) (cs : List Cell) : Type 0 where
  pub able : (t : ℕ) (b : Table) → slice_get ts t ≡ Some b → Able b
  pub long : (t : ℕ) (b : Table) → slice_get ts t ≡ Some b → length b.taken.until ≡ 32
  pub known : (k : ℕ) (c : Cell) → slice_get cs k ≡ Some c → c.table < length ts
  pub within : (k : ℕ) (c : Cell) (b : Table) → slice_get cs k ≡ Some c → slice_get ts c.table ≡ Some b → Within c b
  pub begun : (k : ℕ) (c : Cell) (b : Table) → slice_get cs k ≡ Some c → slice_get ts c.table ≡ Some b → c.row < b.begun
  pub tied : (t : ℕ) (b : Table) → slice_get ts t ≡ Some b → Tied cs t b
  pub lowest : (k : ℕ) (c : Cell) → slice_get cs k ≡ Some c → CameLowest cs k c
  pub ordered : (i k : ℕ) (a b : Cell) → i < k → slice_get cs i ≡ Some a → slice_get cs k ≡ Some b → a.table ≡ b.table → a.row ≤ b.row

nothing : {A : Type 0} {P : Type 0} (k : ℕ) (a : A) → slice_get [] k ≡ Some a → P
nothing k a e = let z : ◌≡◌ {A = ℕ} 0 1 = cc in absurd (omega arith)

pub standing_none : Standing [] []
standing_none = record {
  able = λ t b e. nothing t b e;
  long = λ t b e. nothing t b e;
  known = λ k c e. nothing k c e;
  within = λ k c b e f. nothing k c e;
  begun = λ k c b e f. nothing k c e;
  tied = λ t b e. nothing t b e;
  lowest = λ k c e. nothing k c e;
  ordered = λ i k a b h e. nothing i a e;
}

-- ---- one table more

blank_open : (n q r j : ℕ) → j < columns_of (blank_table n q) → open_at (blank_table n q).taken r j ≡ true
blank_open n q r j h = le-leb (get_or (replicate 32 0) j 0) r (omega (arith, get_or-replicate {A = ℕ} 32 j 0 0 (omega arith)))

pub standing_table : (ts : List Table) (cs : List Cell) (n q : ℕ) → 1 ≤ n → n ≤ 32 → q ≤ 8 → Standing ts cs → Standing (ts ++ blank_table n q ∷ []) cs
standing_table ts cs n q some few narrow s =
    let b : Table = blank_table n q in
    let blank : Able b = record { some = some; few = few; narrow = narrow; in_rows = omega arith; columns_there = refl; rows_there = refl; rows = omega arith } in
    record {
      able = λ t d e. elim (nth_push ts b t d e) [ inl h ↦ s.able t d h | inr h ↦ subst Able h.1 blank ];
      long = λ t d e. elim (nth_push ts b t d e) [ inl h ↦ s.long t d h | inr h ↦ subst (λ x. length x.taken.until ≡ 32) h.1 refl ];
      known = λ k c e. omega (arith, s.known k c e, length_push ts b);
      within = λ k c d e f. elim (nth_push ts b c.table d f) [ inl h ↦ s.within k c d e h | inr h ↦ absurd (omega (arith, s.known k c e, h.0)) ];
      begun = λ k c d e f. elim (nth_push ts b c.table d f) [ inl h ↦ s.begun k c d e h | inr h ↦ absurd (omega (arith, s.known k c e, h.0)) ];
      tied = λ t d e.
          elim (nth_push ts b t d e) [
            | inl h ↦ s.tied t d h
            | inr h ↦ subst (Tied cs t) h.1 (λ r j _ hj. blank_open n q r j hj ∙ sym (all_free cs t r j (λ k c f q. omega (arith, s.known k c f, h.0))))
          ];
      lowest = s.lowest;
      ordered = s.ordered;
    }

-- ---- a table in the place of another: as many columns, the same columns taken, and no fewer rows

pub record Kept (b d : Table) : Type 0 where
  pub able : Able d
  pub count_is : d.count ≡ b.count
  pub taken_is : d.taken ≡ b.taken
  pub begun_up : b.begun ≤ d.begun
  pub reached_up : b.reached ≤ d.reached

within_kept : (c : Cell) (b d : Table) → Kept b d → Within c b → Within c d
within_kept c b d k w = record { wide = w.wide; tall = w.tall; columns = omega (arith, w.columns, k.count_is); rows = omega (arith, w.rows, k.reached_up) }

tied_kept : (cs : List Cell) (t : ℕ) (b d : Table) → Kept b d → Tied cs t b → Tied cs t d
tied_kept cs t b d k h r j low hj = ap (λ x. open_at x r j) k.taken_is ∙ h r j (omega (arith, k.begun_up)) (omega (arith, k.count_is))

module _ (ts : List Table) (cs : List Cell) (t : ℕ) (b d : Table) (e : slice_get ts t ≡ Some b) where
  -- what is known of each cell and its table
  by_table : (P : Cell → Table → Type 0) → ((c : Cell) → P c b → P c d) → ((k : ℕ) (c : Cell) (x : Table) → slice_get cs k ≡ Some c → slice_get ts c.table ≡ Some x → P c x) → (k : ℕ) (c : Cell) (x : Table) → slice_get cs k ≡ Some c → slice_get (set ts t d) c.table ≡ Some x → P c x
  by_table P up old k c x p q =
      elim (nth_set ts t d c.table x q) [
        | inl h ↦ subst (P c) h.1 (up c (old k c b p (ap (slice_get ts) h.0 ∙ e)))
        | inr h ↦ old k c x p h.1
      ]

  pub standing_kept : Kept b d → Standing ts cs → Standing (set ts t d) cs
  standing_kept k s = record {
    able = λ i x p. elim (nth_set ts t d i x p) [ inl h ↦ subst Able h.1 k.able | inr h ↦ s.able i x h.1 ];
    long = λ i x p. elim (nth_set ts t d i x p) [ inl h ↦ subst (λ y. length y.taken.until ≡ 32) h.1 (ap (λ y. length y.until) k.taken_is ∙ s.long t b e) | inr h ↦ s.long i x h.1 ];
    known = λ i c p. omega (arith, s.known i c p, length-set ts t d);
    within = by_table Within (λ c w. within_kept c b d k w) s.within;
    begun = by_table (λ c x. c.row < x.begun) (λ c w. omega (arith, k.begun_up)) s.begun;
    tied = λ i x p. elim (nth_set ts t d i x p) [
      | inl h ↦ subst (Tied cs i) h.1 (tied_kept cs i b d k (s.tied i b (ap (slice_get ts) h.0 ∙ e)))
      | inr h ↦ s.tied i x h.1
    ];
    lowest = s.lowest;
    ordered = s.ordered;
  }

-- ---- one cell more, in the current row of a table

module _ (ts : List Table) (cs : List Cell) (t : ℕ) (b : Table) (e : slice_get ts t ≡ Some b) (j across down : ℕ) where
  -- the cell fits, and stands at the lowest free column
  pub record Fitting : Type 0 where
    pub some : 0 < b.begun
    pub wide : 1 ≤ across
    pub tall : 1 ≤ down
    pub within : j + across ≤ columns_of b
    pub low : current_row b + down ≤ 64
    pub clear_is : (i : ℕ) → j ≤ i → i < j + across → free_in cs t (current_row b) i ≡ true
    pub lowest_is : (i : ℕ) → i < j → free_in cs t (current_row b) i ≡ false

  module _ (holds : Holds) (f : Fitting) (s : Standing ts cs) where
    abbrev c : Cell
    c = new_cell t b j across down holds

    abbrev d : Table
    d = with_cell b j across down

    able_cell : Able d
    able_cell = let a = s.able t b e in record { some = a.some; few = a.few; narrow = a.narrow; in_rows = omega (arith, a.in_rows); rows = omega (arith, a.rows, f.low); columns_there = a.columns_there; rows_there = a.rows_there }

    within_cell : Within c d
    within_cell = record { wide = f.wide; tall = f.tall; columns = f.within; rows = omega arith }

    within_old : (x : Cell) → Within x b → Within x d
    within_old x w = record { wide = w.wide; tall = w.tall; columns = w.columns; rows = omega (arith, w.rows) }

    -- a column of the cell was free in the current row, and so in the rows below
    free_below : (r k : ℕ) → current_row b ≤ r → j ≤ k → k < j + across → free_in cs t r k ≡ true
    free_below r k low from to =
        let inside : k < columns_of b = omega (arith, f.within) in
        let here : open_at b.taken (current_row b) k ≡ true = s.tied t b e (current_row b) k (omega arith) inside ∙ f.clear_is k from to in
        let upto = leb-true (get_or b.taken.until k 0) (current_row b) here in
        sym (s.tied t b e r k low inside) ∙ le-leb (get_or b.taken.until k 0) r (omega arith)

    tied_here : Tied (cs ++ c ∷ []) t d
    tied_here r k low inside =
        let pushed = free_push cs c t r k in
        let same : eqb t t ≡ true = eq-eqb t t refl in
        elim (cases_lt k j) [
          | inl before ↦
              let out = raised_out b.taken.until j across (current_row b + down) k (λ p q. omega arith) in
              let old = s.tied t b e r k low inside in
              grind (arith, nat_tests)
          | inr from ↦ elim (cases_lt k (j + across)) [
            | inl to ↦
                let in' = raised_in b.taken.until j across (current_row b + down) k from to (omega (arith, s.long t b e, f.within)) in
                let old = free_below r k low from to in
                grind (arith, nat_tests)
            | inr after ↦
                let out = raised_out b.taken.until j across (current_row b + down) k (λ p q. omega arith) in
                let old = s.tied t b e r k low inside in
                grind (arith, nat_tests)
          ]
        ]

    tied_other : (i : ℕ) (x : Table) → (i ≡ t → ⊥) → slice_get ts i ≡ Some x → Tied (cs ++ c ∷ []) i x
    tied_other i x ne p r k low inside =
        let pushed = free_push cs c i r k in
        let other : eqb t i ≡ false = ne_eqb t i (λ q. ne (sym q)) in
        let old = s.tied i x p r k low inside in
        grind (arith, nat_tests)

    came_old : (k : ℕ) (x : Cell) → slice_get cs k ≡ Some x → CameLowest (cs ++ c ∷ []) k x
    came_old k x p =
        let h : k ≤ length cs = omega (arith, slice_get_within cs k x p) in
        let same : take k cs ≡ take k (cs ++ c ∷ []) = sym (take-append-le k cs (c ∷ []) h) in
        let old = s.lowest k x p in
        record {
          free = λ i from to. ap (λ xs. free_in xs x.table x.row i) (sym same) ∙ old.free i from to;
          lowest = λ i h. ap (λ xs. free_in xs x.table x.row i) (sym same) ∙ old.lowest i h;
        }

    came_new : CameLowest (cs ++ c ∷ []) (length cs) c
    came_new =
        let all : take (length cs) (cs ++ c ∷ []) ≡ cs = take-append-le (length cs) cs (c ∷ []) (omega arith) ∙ take_all (length cs) cs (omega arith) in
        record {
          free = λ i from to. ap (λ xs. free_in xs t (current_row b) i) all ∙ f.clear_is i from to;
          lowest = λ i h. ap (λ xs. free_in xs t (current_row b) i) all ∙ f.lowest_is i h;
        }

    -- cells of the table that stand there already are in no later row
    row_before : (i : ℕ) (x : Cell) → slice_get cs i ≡ Some x → x.table ≡ t → x.row ≤ current_row b
    row_before i x p q = omega (arith, s.begun i x b p (ap (slice_get ts) q ∙ e))

    pub standing_cell : Standing (set ts t d) (cs ++ c ∷ [])
    standing_cell = record {
      able = λ i x p. elim (nth_set ts t d i x p) [ inl h ↦ subst Able h.1 able_cell | inr h ↦ s.able i x h.1 ];
      long = λ i x p. elim (nth_set ts t d i x p) [ inl h ↦ subst (λ y. length y.taken.until ≡ 32) h.1 (length_raised b.taken.until j across (current_row b + down) ∙ s.long t b e) | inr h ↦ s.long i x h.1 ];
      known = λ k x p. elim (nth_push cs c k x p) [
        | inl h ↦ omega (arith, s.known k x h, length-set ts t d)
        | inr h ↦ subst (λ (y : Cell). y.table < length (set ts t d)) h.1 (omega (arith, slice_get_within ts t b e, length-set ts t d))
      ];
      within = λ k x y p q. elim (nth_push cs c k x p) [
        | inl h ↦ by_table ts cs t b d e Within within_old s.within k x y h q
        | inr h ↦ elim (nth_set ts t d x.table y q) [
          | inl g ↦ subst (Within x) g.1 (subst (λ z. Within z d) h.1 within_cell)
          | inr g ↦ absurd (g.0 (ap (λ (z : Cell). z.table) (sym h.1)))
        ]
      ];
      begun = λ k x y p q. elim (nth_push cs c k x p) [
        | inl h ↦ by_table ts cs t b d e (λ z w. z.row < w.begun) (λ z w. w) s.begun k x y h q
        | inr h ↦ elim (nth_set ts t d x.table y q) [
          | inl g ↦ subst (λ (w : Table). x.row < w.begun) g.1 (subst (λ (z : Cell). z.row < d.begun) h.1 (omega (arith, f.some)))
          | inr g ↦ absurd (g.0 (ap (λ (z : Cell). z.table) (sym h.1)))
        ]
      ];
      tied = λ i x p. elim (nth_set ts t d i x p) [
        | inl h ↦ subst (Tied (cs ++ c ∷ []) i) h.1 (subst (λ k. Tied (cs ++ c ∷ []) k d) (sym h.0) tied_here)
        | inr h ↦ tied_other i x h.0 h.1
      ];
      lowest = λ k x p. elim (nth_push cs c k x p) [
        | inl h ↦ came_old k x h
        | inr h ↦ subst (CameLowest (cs ++ c ∷ []) k) h.1 (subst (λ n. CameLowest (cs ++ c ∷ []) n c) (sym h.0) came_new)
      ];
      ordered = λ i k x y h p q same. elim (nth_push cs c k y q) [
        | inl g ↦ elim (nth_push cs c i x p) [
          | inl l ↦ s.ordered i k x y h l g same
          | inr l ↦ absurd (omega (arith, slice_get_within cs k y g, l.0))
        ]
        | inr g ↦ elim (nth_push cs c i x p) [
          | inl l ↦ subst (λ (z : Cell). x.row ≤ z.row) g.1 (row_before i x l (same ∙ ap (λ (z : Cell). z.table) (sym g.1)))
          | inr l ↦ absurd (omega (arith, g.0, l.0))
        ]
      ];
    }

-- ---- what follows for two cells

takes_above : (a : Cell) (q r j : ℕ) → takes a r j ≡ true → a.row ≤ q → q ≤ r → takes a q j ≡ true
takes_above a q r j h low high = grind (arith, nat_tests)

apart_in_order : (ts : List Table) (cs : List Cell) → Standing ts cs → (i k : ℕ) (a b : Cell) → i < k → slice_get cs i ≡ Some a → slice_get cs k ≡ Some b → a.table ≡ b.table → (r j : ℕ) → takes a r j ≡ true → takes b r j ≡ true → ⊥
apart_in_order ts cs s i k a b h p q same r j ta tb =
    let from : b.column ≤ j = grind (arith, nat_tests) in
    let to : j < b.column + b.across = grind (arith, nat_tests) in
    let at : b.row ≤ r = grind (arith, nat_tests) in
    let above : takes a b.row j ≡ true = takes_above a b.row r j ta (s.ordered i k a b h p q same) at in
    both_ways (free_in (take k cs) b.table b.row j)
    (not_free (take k cs) b.table b.row j i a (nth_take k cs i a h p) same above)
    ((s.lowest k b q).free j from to)

pub standing_apart : (ts : List Table) (cs : List Cell) → Standing ts cs → Apart cs
standing_apart ts cs s i k a b ne p q same r j ta tb =
    elim (cases_order i k) [
      | inl e ↦ ne e
      | inr d ↦ elim d [
        | inl h ↦ apart_in_order ts cs s i k a b h p q same r j ta tb
        | inr h ↦ apart_in_order ts cs s k i b a h q p (sym same) r j tb ta
      ]
    ]
