-- The labels of a case, item by item.
use Rattle.std.proofs.Common.{◌≡◌, ◌≢◌, ℕ, zero, suc, ◌-◌, ◌^◌, ◌<◌, ◌≤◌, max, min, length, get_or, pow_pos, ne_eqb, Bool, true, false, ◌&&◌, ◌||◌, ◌==◌, nat_lt, List, [], ◌∷◌, ◌++◌, map, Option, Some, None, Box, Global, refl, sym, ap, ap₂, ◌∙◌, arith}
use Rattle.std.specs.List.{list_all, list_any}
use Rattle.std.proofs.lemmas.List.Folds.{list_any-append}
use Rattle.std.proofs.lemmas.Bool.{and_parts}
use Rattle.cell_graph.specs.Tree.{number, all_below}
use Rattle.flat_meaning.specs.Flat as f
use Rattle.flat_meaning.specs.Meaning.{value}
use Rattle.flat_meaning.specs.Full.{nothing, are_const, has_label, labels_const, some_label, is_full}
use Rattle.flat_form.specs.declared.flat.FExpr.{FExpr}
use Rattle.flat_form.specs.declared.flat.FCaseItem.{FCaseItem}
use Rattle.flat_form.specs.declared.flat.FStmt.{FStmt}
use Rattle.flat_form.specs.declared.flat.FStmt.TheOpen.{FCaseItem-F}
use Rattle.flat_form.specs.declared.flat.FStmt.TheFolds.{fold-roll-FCaseItem}
use Rattle.flat_form.specs.View as v
use Rattle.flat_form.specs.View.{expr_of, exprs_of, Arm, arm_of, items_of, last_of}
use Rattle.flat_form.specs.Sizes.{is_sized, are_labels_sized}
use Rattle.flat_meaning.proofs.Words.{by_lt}
use Rattle.flat_form.proofs.Sized.{sized_width}
use Rattle.flat_form.proofs.Constants.{these, InputGives}

abbrev pub labels_of : FCaseItem → List FExpr
labels_of i = i.labels

-- an item's labels
pub arm-labels : (i : FCaseItem) → (arm_of i).labels ≡ these (labels_of i)
arm-labels i = let x : FCaseItem-F FStmt FCaseItem = record { labels = i.labels; body = i.body } in ap (λ (a : Arm). a.labels) (fold-roll-FCaseItem f.Stmt Arm v.stmt_step v.arm_step x)

abbrev pub items_in : List FCaseItem → f.Items
items_in is = items_of (map arm_of is) f.no_items

abbrev pub largest_in : List FCaseItem → ℕ
largest_in is = f.largest_label (items_in is)

-- a default has no label
pub largest-default : (ks : List Arm) (d : Option (Box f.Stmt Global)) → f.largest_label (items_of ks (last_of d)) ≡ f.largest_label (items_of ks f.no_items)
largest-default [] None = refl
largest-default [] (Some s) = refl
largest-default (a ∷ ks) d = ap (max (f.largest a.labels)) (largest-default ks d)

pub full-default : (w : ℕ) (ks : List Arm) (d : Option (Box f.Stmt Global)) → is_full w (items_of ks (last_of d)) ≡ is_full w (items_of ks f.no_items)
full-default w ks None = refl
full-default w ks (Some s) = ap₂ (λ a b. a && b) (constants ks) (ap (λ p. all_below p (2 ^ w)) (labels ks))
  where
    any-label : f.Items → ℕ → Bool
    any-label is x = some_label w x is

    constants : (ks : List Arm) → labels_const (items_of ks (f.default_item s.value)) ≡ labels_const (items_of ks f.no_items)
    constants [] = refl
    constants (a ∷ ks) = ap (λ b. are_const a.labels && b) (constants ks)

    labels : (ks : List Arm) → any-label (items_of ks (f.default_item s.value)) ≡ any-label (items_of ks f.no_items)
    labels [] = refl
    labels (a ∷ ks) = ap (λ (p : ℕ → Bool). λ (x : ℕ). has_label w x a.labels || p x) (labels ks)

abbrev pub is_among : ℕ → List ℕ → Bool
is_among x vs = list_any (λ v. x == v) vs

-- the values of the labels before the rest were added
pub record AddsLabels (w : ℕ) (old new : List ℕ) (rest all : List FExpr) : Type 0 where
  pub sized : list_all is_sized rest ≡ true
  pub room : f.largest (these rest) ≤ w
  pub whole : (x : ℕ) → (is_among x old || has_label w x (these all)) ≡ (is_among x new || has_label w x (these rest))

-- the same of items, all whose labels are constants so far
pub record AddsItems (w : ℕ) (new : List ℕ) (rest all : List FCaseItem) : Type 0 where
  pub sized : are_labels_sized rest ≡ true
  pub room : largest_in rest ≤ w
  pub constant : labels_const (items_in all) ≡ labels_const (items_in rest)
  pub whole : (x : ℕ) → some_label w x (items_in all) ≡ (is_among x new || some_label w x (items_in rest))

-- ---- one label more

regroup : (a b c : Bool) → (a || (b || c)) ≡ ((a || (b || false)) || c)
regroup true b c = refl
regroup false true c = refl
regroup false false c = refl

pub labels-step : (w v : ℕ) (old new : List ℕ) (e : FExpr) (rest all : List FExpr) → AddsLabels w old new (e ∷ rest) all → w ≤ 64 → InputGives e w v → AddsLabels w old (new ++ v ∷ []) rest all
labels-step w v old new e rest all j small gives =
    let p = and_parts (is_sized e) (list_all is_sized rest) j.sized in
    let size = sized_width e p.0 in
    let room = j.room in
    let is : v ≡ number (value nothing (expr_of e) w) w = (gives p.0 (omega arith) small).0 in
    record {
      sized = p.1;
      room = omega arith;
      whole = λ x. j.whole x ∙ ap (λ n. is_among x new || ((x == n) || has_label w x (these rest))) (sym is) ∙ regroup (is_among x new) (x == v) (has_label w x (these rest))
          ∙ ap (λ b. b || has_label w x (these rest)) (sym (list_any-append (λ k. x == k) new (v ∷ [])));
    }

-- ---- one item more

or-assoc : (a b c : Bool) → (a || (b || c)) ≡ ((a || b) || c)
or-assoc true b c = refl
or-assoc false b c = refl

pub items-step : (w : ℕ) (new more : List ℕ) (i : FCaseItem) (rest all : List FCaseItem) → AddsItems w new (i ∷ rest) all → are_const (these (labels_of i)) ≡ true
    → ((x : ℕ) → is_among x more ≡ (is_among x new || has_label w x (these (labels_of i)))) → AddsItems w more rest all
items-step w new more i rest all j const added =
    let p = and_parts (list_all is_sized (labels_of i)) (are_labels_sized rest) j.sized in
    let room = j.room in
    record {
      sized = p.1;
      room = omega arith;
      constant = j.constant ∙ ap (λ b. b && labels_const (items_in rest)) (ap are_const (arm-labels i) ∙ const);
      whole = λ x. j.whole x ∙ ap (λ ls. is_among x new || (has_label w x ls || some_label w x (items_in rest))) (arm-labels i)
          ∙ or-assoc (is_among x new) (has_label w x (these (labels_of i))) (some_label w x (items_in rest)) ∙ ap (λ b. b || some_label w x (items_in rest)) (sym (added x));
    }

pub item-sized : (w : ℕ) (new : List ℕ) (i : FCaseItem) (rest all : List FCaseItem) → AddsItems w new (i ∷ rest) all → list_all is_sized (labels_of i) ≡ true
item-sized w new i rest all j = (and_parts (list_all is_sized (labels_of i)) (are_labels_sized rest) j.sized).0

pub item-room : (w : ℕ) (new : List ℕ) (i : FCaseItem) (rest all : List FCaseItem) → AddsItems w new (i ∷ rest) all → f.largest (these (labels_of i)) ≤ w
item-room w new i rest all j = let room = j.room in let e = ap f.largest (arm-labels i) in omega arith

pub not-constant : (w : ℕ) (new : List ℕ) (i : FCaseItem) (rest all : List FCaseItem) → AddsItems w new (i ∷ rest) all → are_const (these (labels_of i)) ≡ false → false ≡ is_full w (items_in all)
not-constant w new i rest all j fails =
    sym (ap (λ b. b && all_below (λ x. some_label w x (items_in all)) (2 ^ w)) (j.constant ∙ ap (λ b. b && labels_const (items_in rest)) (ap are_const (arm-labels i) ∙ fails)))

-- ---- all values

below-all : (p : ℕ → Bool) (n : ℕ) → ((x : ℕ) → x < n → p x ≡ true) → all_below p n ≡ true
below-all p zero h = refl
below-all p (suc n) h = ap₂ (λ a b. a && b) (below-all p n (λ x l. h x (omega arith))) (h n (omega arith))

and-no : (b : Bool) → (b && false) ≡ false
and-no true = refl
and-no false = refl

below-one : (p : ℕ → Bool) (n x : ℕ) → p x ≡ false → x < n → all_below p n ≡ false
below-one p zero x h l = absurd (omega arith)
below-one p (suc n) x h l = by_lt (λ b. all_below p (suc n) ≡ false) x n (λ k. ap (λ b. b && p n) (below-one p n x h k)) (λ k. ap (λ b. all_below p n && b) (ap p (let e : n ≡ x = omega arith in e) ∙ h) ∙ and-no (all_below p n))

or-none : (b : Bool) → (b || false) ≡ b
or-none true = refl
or-none false = refl

pub full-is : (w m next : ℕ) (new sorted : List ℕ) (all : List FCaseItem) → AddsItems w new [] all → ((x : ℕ) → is_among x new ≡ is_among x sorted) → ((x : ℕ) → x < next → is_among x sorted ≡ true) → is_among next sorted ≡ false
    → m ≡ 2 ^ min w 64 - 1 → w ≤ 64 → nat_lt m next ≡ is_full w (items_in all)
full-is w m next new sorted all j same below absent e small =
    let top : m ≡ 2 ^ w - 1 = e ∙ ap (λ k. 2 ^ k - 1) (let z : min w 64 ≡ w = omega arith in z) in
    let pos = pow_pos w in
    by_lt (λ b. b ≡ all_below (λ x. some_label w x (items_in all)) (2 ^ w)) m next
    (λ l. sym (below-all (λ x. some_label w x (items_in all)) (2 ^ w) (λ x k. test x ∙ below x (omega arith))))
    (λ l. sym (below-one (λ x. some_label w x (items_in all)) (2 ^ w) next (test next ∙ absent) (omega arith)))
    ∙ ap (λ b. b && all_below (λ x. some_label w x (items_in all)) (2 ^ w)) (sym j.constant)
  where
    test : (x : ℕ) → some_label w x (items_in all) ≡ is_among x sorted
    test x = j.whole x ∙ or-none (is_among x new) ∙ same x

pub none-among : (x : ℕ) (vs : List ℕ) → ((k : ℕ) → k < length vs → get_or vs k 0 ≢ x) → is_among x vs ≡ false
none-among x [] h = refl
none-among x (v ∷ vs) h = ap₂ (λ a b. a || b) (ne_eqb x v (λ e. h 0 (omega arith) (sym e))) (none-among x vs (λ k l. h (suc k) (omega arith)))
