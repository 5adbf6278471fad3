-- Processes that begin, and that end.
use Rattle.std.proofs.Common.{◌≡◌, ℕ, zero, suc, ◌+◌, ◌-◌, ◌<◌, ◌≤◌, Bool, true, false, cond, ◌||◌, ◌==◌, List, [], ◌∷◌, ◌++◌, Option, Some, None, is_some, unwrap_or, slice_get, slice_set, option_map, ◌≢◌, refl, sym, ap, ap₂, subst, ◌∙◌, arith, eqb-true, eq-eqb, append-nil}
use mathlib.Core.Path.{fun_ext}
use Rattle.std.specs.Option.{option_flatten, option_or, option_map_or}
use Rattle.std.specs.Ordering.{nat_cmp}
use Rattle.std.specs.Map.{lookup}
use Rattle.std.specs.BTreeMap.{BTreeMap, get, IsEmpty, is_at}
use Rattle.std.proofs.lemmas.Option.{same_Some}
use Rattle.cell_graph.specs.declared.cell.CellId.{CellId}
use Rattle.cell_graph.specs.Tree.{Const, bit_at}
use Rattle.cell_graph.proofs.Words.{bit-zero}
use Rattle.flat_meaning.specs.Flat.{Stmt, assigns}
use Rattle.flat_meaning.specs.Trees.{Selects, Trees}
use Rattle.flat_meaning.specs.Assigned.{Done, may_assign}
use Rattle.flat_meaning.specs.Law.{AreWords}
use Rattle.flat_meaning.specs.Pieces.{runs}
use Rattle.flat_meaning.specs.SignalTrees.{sharing, clock_tree_in}
use Rattle.flat_meaning.proofs.Depth.{by_bool}
use Rattle.driver_trees.specs.declared.draft.Draft.{Draft}
use Rattle.driver_trees.specs.declared.present.Present.{Present}
use Rattle.driver_trees.specs.declared.shared.Giver.{Giver}
use Rattle.driver_trees.specs.declared.sketch.Next.{Next}
use Rattle.driver_trees.specs.Drafts.{tree_in, AreDrafts, IsDraftOf}
use Rattle.driver_trees.specs.Growth.{Grows}
use Rattle.driver_trees.specs.Presents.{present_of}
use Rattle.driver_trees.specs.Changes.{IsWordOf, IsProcess}
use Rattle.driver_trees.specs.Collected.{has_bit, Adds}
use Rattle.driver_trees.specs.Sketched.{IsIdle, begin_tree, last_tree, IsNext, IsGiver, AreGivers, givers_in, clock_at, IsClockOf, AreNexts, given_by}
use Rattle.driver_trees.proofs.Growing.{place-kept, tree-kept}
use Rattle.driver_trees.proofs.Maps.{at_query}
use Rattle.driver_trees.proofs.Stays.{word_grows}
use Rattle.driver_trees.proofs.Runs.{runs_past, runs_same}

never : {P : Type 0} {A : Type 0} {v : A} → None ≡ Some v → P
never h = cc

never_true : {P : Type 0} → false ≡ true → P
never_true h = cc

-- ---- the tree at one place

module _ (v : Option CellId) where
  at_others : (ts : List (Option CellId)) (k x : ℕ) → (x ≡ k → ⊥) → slice_get (slice_set ts k v) x ≡ slice_get ts x
  at_others [] k x n = refl
  at_others (t ∷ ts) zero zero n = absurd (n refl)
  at_others (t ∷ ts) zero (suc x) n = refl
  at_others (t ∷ ts) (suc k) zero n = refl
  at_others (t ∷ ts) (suc k) (suc x) n = at_others ts k x (λ e. n (ap suc e))

none_at : (ts : List (Option CellId)) (k : ℕ) → option_flatten (slice_get (slice_set ts k None) k) ≡ None
none_at [] k = refl
none_at (t ∷ ts) zero = refl
none_at (t ∷ ts) (suc k) = none_at ts k

some_at : (v i : CellId) (ts : List (Option CellId)) (k : ℕ) → option_flatten (slice_get (slice_set ts k (Some v)) k) ≡ Some i → option_flatten (slice_get (slice_set ts k (Some v)) k) ≡ Some v
some_at v i [] k h = never h
some_at v i (t ∷ ts) zero h = refl
some_at v i (t ∷ ts) (suc k) h = some_at v i ts k h

differ : (x k : ℕ) → (x == k) ≡ false → x ≡ k → ⊥
differ x k e f = never_true (sym e ∙ eq-eqb x k f)

-- where a signal's tree is taken
pub taken_at : (ts : List (Option CellId)) (k x : ℕ) → option_flatten (slice_get (slice_set ts k None) x) ≡ cond (x == k) None (option_flatten (slice_get ts x))
taken_at ts k x = go (x == k) refl
  where
    go : (b : Bool) → (x == k) ≡ b → option_flatten (slice_get (slice_set ts k None) x) ≡ cond b None (option_flatten (slice_get ts x))
    go true e = ap (λ y. option_flatten (slice_get (slice_set ts k None) y)) (eqb-true x k e) ∙ none_at ts k
    go false e = ap option_flatten (at_others None ts k x (differ x k e))

-- where a signal has a place and is given a tree
pub given_at : (ts : List (Option CellId)) (k : ℕ) (v i : CellId) → option_flatten (slice_get (slice_set ts k (Some v)) k) ≡ Some i
    → (x : ℕ) → option_flatten (slice_get (slice_set ts k (Some v)) x) ≡ cond (x == k) (Some v) (option_flatten (slice_get ts x))
given_at ts k v i h x = go (x == k) refl
  where
    go : (b : Bool) → (x == k) ≡ b → option_flatten (slice_get (slice_set ts k (Some v)) x) ≡ cond b (Some v) (option_flatten (slice_get ts x))
    go true e = ap (λ y. option_flatten (slice_get (slice_set ts k (Some v)) y)) (eqb-true x k e) ∙ some_at v i ts k h
    go false e = ap option_flatten (at_others (Some v) ts k x (differ x k e))

-- ---- processes that begin

pub begins : (wid : ℕ → ℕ) (ds : List Draft) (p : Present) (ts : Selects → Trees) → IsIdle wid p → AreDrafts wid ds → IsProcess wid ds p (λ x. false) ts
begins wid ds p ts h drafts = record { words = h.words; drafts = drafts; widths = h.widths; targets = λ x. ap is_some (h.none x); trees = λ x id k. never (sym (h.none x) ∙ k) }

pub idle_begun : (wid : ℕ → ℕ) (p q : Present) → IsIdle wid p → q.trees.items ≡ p.trees.items → q.widths.items ≡ p.widths.items → IsIdle wid q
idle_begun wid p q h e f = record {
  words = h.words;
  widths = λ x. ap (λ ws. unwrap_or (slice_get ws x) 0) f ∙ h.widths x;
  none = λ x. ap (λ ts. option_flatten (slice_get ts x)) e ∙ h.none x;
}

pub starts : (wid : ℕ → ℕ) (ds es : List Draft) (g : Grows wid ds es) (p q : Present) (done : ℕ → Bool) (ts : Selects → Trees) (k : ℕ) (id : CellId) → IsProcess wid ds p done ts → IsWordOf wid es id k ts
    → ((x : ℕ) → present_of q x ≡ cond (x == k) (Some id) (present_of p x)) → q.widths.items ≡ p.widths.items → IsProcess wid es q (λ x. done x || (x == k)) ts
starts wid ds es g p q done ts k id h word e f = record {
  words = h.words;
  drafts = g.drafts;
  widths = λ x. ap (λ ws. unwrap_or (slice_get ws x) 0) f ∙ h.widths x;
  targets = λ x. ap is_some (e x) ∙ one x (x == k) (present_of p x) (done x) (h.targets x);
  trees = λ x i a. two x i (x == k) refl (sym (e x) ∙ a);
}
  where
    one : (x : ℕ) (b : Bool) (o : Option CellId) (d : Bool) → is_some o ≡ d → is_some (cond b (Some id) o) ≡ (d || b)
    one x true o true a = refl
    one x true o false a = refl
    one x false o true a = a
    one x false o false a = a

    two : (x : ℕ) (i : CellId) (b : Bool) → (x == k) ≡ b → cond b (Some id) (present_of p x) ≡ Some i → IsWordOf wid es i x ts
    two x i true c a = subst (λ j. IsWordOf wid es j x ts) (same_Some id i a) (subst (λ y. IsWordOf wid es id y ts) (sym (eqb-true x k c)) word)
    two x i false c a = word_grows wid ds es g i x ts (h.trees x i a)

pub process_of : (wid : ℕ → ℕ) (ds : List Draft) (p : Present) (a b : ℕ → Bool) (ts : Selects → Trees) → IsProcess wid ds p a ts → ((x : ℕ) → a x ≡ b x) → IsProcess wid ds p b ts
process_of wid ds p a b ts h e = record { words = h.words; drafts = h.drafts; widths = h.widths; targets = λ x. h.targets x ∙ e x; trees = h.trees }

-- the targets of a process that has begun are those that its statement assigns
pub begun_for : (wid : ℕ → ℕ) (ds : List Draft) (p : Present) (blocking : Bool) (a b : ℕ → Bool) → ((x : ℕ) → a x ≡ b x) → IsProcess wid ds p a (begin_tree blocking a wid) → IsProcess wid ds p b (begin_tree blocking b wid)
begun_for wid ds p blocking a b e h = subst (λ (t : ℕ → Bool). IsProcess wid ds p t (begin_tree blocking t wid)) (fun_ext e) h

module _ (m n : BTreeMap ℕ ℕ) (empty : IsEmpty m) (a : ℕ → Bool) (may : Done) (adds : Adds m n a may) where
  none_yet : (x : ℕ) → get nat_cmp m x ≡ None
  none_yet x = ap (λ es. lookup (is_at (nat_cmp x)) es) empty

  pub only_keys : (x : ℕ) → is_some (get nat_cmp n x) ≡ a x
  only_keys x = adds.keys x ∙ ap (λ o. is_some o || a x) (none_yet x)

  pub only_bits : (x i : ℕ) → i < 64 → has_bit n x i ≡ may x i
  only_bits x i l = adds.bits x i l ∙ ap (λ o. bit_at (unwrap_or o 0) i || may x i) (none_yet x) ∙ ap (λ b. b || may x i) (bit-zero i)

-- ---- runs of bits of a signal

pub runs_are : (word n : ℕ) (set : ℕ → Bool) → n ≤ 64 → ((i : ℕ) → i < 64 → bit_at word i ≡ set i) → ((i : ℕ) → set i ≡ true → i < n) → (m : ℕ) → m ≡ 64 → runs (bit_at word) m [] ≡ runs set n []
runs_are word n set l h k m e = runs_same (bit_at word) set m (λ i a. h i (omega (arith, a, e))) []
    ∙ ap (λ j. runs set j []) (let z : m ≡ n + (m - n) = omega (arith, l, e) in z)
    ∙ runs_past set n (m - n) (λ i a b. by_bool (set i) (λ c. absurd (let d = k i c in omega (arith, a, d))) (λ c. c)) []

-- ---- what is left at the end of a process

pub targets_only : {A : Type 0} (b t : Bool) (r : List A) → b ≡ t → (t ≡ false → r ≡ []) → cond b r [] ≡ r
targets_only b true r e h = ap (λ c. cond c r []) e
targets_only b false r e h = ap (λ c. cond c r []) e ∙ sym (h refl)

pub idle_again : (wid : ℕ → ℕ) (p : Present) → AreWords wid → ((x : ℕ) → unwrap_or (slice_get p.widths.items x) 0 ≡ wid x) → ((x : ℕ) → present_of p x ≡ None) → IsIdle wid p
idle_again wid p words widths none = record { words = words; widths = widths; none = none }

pub all_ended : (left : List (ℕ × ℕ)) (p : Present) → left ≡ [] → ((x : ℕ) → is_some (present_of p x) ≡ true → is_some (lookup (is_at (nat_cmp x)) left) ≡ true) → (x : ℕ) → present_of p x ≡ None
all_ended left p e h x = go (present_of p x) (λ s. sym (ap (λ es. is_some (lookup (is_at (nat_cmp x)) es)) e) ∙ h x s)
  where
    go : (o : Option CellId) → (is_some o ≡ true → false ≡ true) → o ≡ None
    go None f = refl
    go (Some i) f = never_true (f refl)

-- ---- what one process gives, register by register

pub nothing_given : (gs : List Giver) (b : Bool) → gs ≡ gs ++ cond b [] []
nothing_given gs true = sym (append-nil gs)
nothing_given gs false = sym (append-nil gs)

last_or : {A : Type 0} (o : Option A) → option_or o None ≡ o
last_or None = refl
last_or (Some i) = refl

pub no_clock : (o : Option CellId) (b : Bool) → o ≡ option_or o (cond b None None)
no_clock o true = sym (last_or o)
no_clock o false = sym (last_or o)

pub givers_taken : (k v x : ℕ) (old new : List Giver) (p : ℕ → Option CellId) (q : Option CellId) (bits : ℕ → ℕ) → bits k ≡ v → q ≡ cond (x == k) None (p x)
    → new ≡ old ++ cond (x == k) (given_by (p k) v) [] → new ++ given_by q (bits x) ≡ old ++ given_by (p x) (bits x)
givers_taken k v x old new p q bits a e f = ap₂ (λ u w. u ++ given_by w (bits x)) f e ∙ go (x == k) refl
  where
    go : (b : Bool) → (x == k) ≡ b → (old ++ cond b (given_by (p k) v) []) ++ given_by (cond b None (p x)) (bits x) ≡ old ++ given_by (p x) (bits x)
    go true c = append-nil (old ++ given_by (p k) v) ∙ ap₂ (λ y w. old ++ given_by (p y) w) (sym (eqb-true x k c)) (sym a ∙ ap bits (sym (eqb-true x k c)))
    go false c = ap (λ l. l ++ given_by (p x) (bits x)) (append-nil old)

pub clock_taken : (clock : CellId) (k x : ℕ) (old new : Option CellId) (p : ℕ → Option CellId) (q : Option CellId) → q ≡ cond (x == k) None (p x)
    → new ≡ option_or old (cond (x == k) (option_map (λ id. clock) (p k)) None) → option_or new (option_map (λ id. clock) q) ≡ option_or old (option_map (λ id. clock) (p x))
clock_taken clock k x old new p q e f = ap₂ (λ a b. option_or a (option_map (λ id. clock) b)) f e ∙ go (x == k) refl old
  where
    go : (b : Bool) → (x == k) ≡ b → (n : Option CellId) → option_or (option_or n (cond b (option_map (λ id. clock) (p k)) None)) (option_map (λ id. clock) (cond b None (p x))) ≡ option_or n (option_map (λ id. clock) (p x))
    go b c (Some i) = refl
    go true c None = last_or (option_map (λ id. clock) (p k)) ∙ ap (λ y. option_map (λ id. clock) (p y)) (sym (eqb-true x k c))
    go false c None = refl

pub givers_end : (gs all : List Giver) (q : Option CellId) (bits : ℕ) → q ≡ None → gs ++ given_by q bits ≡ all → gs ≡ all
givers_end gs all q bits e h = sym (append-nil gs) ∙ ap (λ o. gs ++ given_by o bits) (sym e) ∙ h

pub clocks_end : (clock : CellId) (o all : Option CellId) (q : Option CellId) → q ≡ None → option_or o (option_map (λ id. clock) q) ≡ all → o ≡ all
clocks_end clock o all q e h = sym (last_or o) ∙ ap (λ u. option_or o (option_map (λ id. clock) u)) (sym e) ∙ h

-- ---- what processes give, one after another

pub next_grows : (wid : ℕ → ℕ) (ds es : List Draft) (g : Grows wid ds es) (e : CellId × CellId) (x : ℕ) (next clock : Selects → Trees) → IsNext wid ds e x next clock → IsNext wid es e x next clock
next_grows wid ds es g e x next clock h = record {
  next = word_grows wid ds es g e.0 x next h.next;
  clock = place-kept ds es e.1 1 g.longer h.clock;
  clock_tree = λ sel. tree-kept sel ds es g.longer e.1 h.clock.0 ∙ h.clock_tree sel;
}

shares_grow : (wid : ℕ → ℕ) (ds es : List Draft) (g : Grows wid ds es) (x : ℕ) (gs : List Giver) (bodies : List Stmt) → AreGivers wid ds x gs bodies → AreGivers wid es x gs bodies
shares_grow wid ds es g x [] [] h = h
shares_grow wid ds es g x [] (body ∷ bodies) h = h
shares_grow wid ds es g x (a ∷ gs) [] h = h
shares_grow wid ds es g x (a ∷ gs) (body ∷ bodies) h = (
  record { word = word_grows wid ds es g a.tree x (λ sel. last_tree wid sel body) h.0.word; bits = h.0.bits },
  shares_grow wid ds es g x gs bodies h.1,
)

clock_grows : (wid : ℕ → ℕ) (ds es : List Draft) (g : Grows wid ds es) (x : ℕ) (o : Option CellId) (ps : List (ℕ × Stmt)) → IsClockOf ds x o ps → IsClockOf es x o ps
clock_grows wid ds es g x None ps h = h
clock_grows wid ds es g x (Some id) ps h = (place-kept ds es id 1 g.longer h.0, λ sel. tree-kept sel ds es g.longer id h.0.0 ∙ h.1 sel, h.2)

pub nexts_grow : (wid : ℕ → ℕ) (ds es : List Draft) (g : Grows wid ds es) (m : BTreeMap ℕ Next) (ps : List (ℕ × Stmt)) → AreNexts wid ds m ps → AreNexts wid es m ps
nexts_grow wid ds es g m ps h = record { shares = λ x. shares_grow wid ds es g x (givers_in m x) (sharing ps x) (h.shares x); clocks = λ x. clock_grows wid ds es g x (clock_at m x) ps (h.clocks x) }

pub nexts_none : (wid : ℕ → ℕ) (ds : List Draft) (m : BTreeMap ℕ Next) → IsEmpty m → AreNexts wid ds m []
nexts_none wid ds m empty = record {
  shares = λ x. subst (λ (o : Option Next). AreGivers wid ds x (option_map_or (λ (n : Next). n.givers.items) o []) []) (sym (none x)) tt;
  clocks = λ x. subst (λ (o : Option Next). IsClockOf ds x (option_map (λ (n : Next). n.clock) o) []) (sym (none x)) refl;
}
  where
    none : (x : ℕ) → get nat_cmp m x ≡ None
    none x = ap (λ es. lookup (is_at (nat_cmp x)) es) empty

sharing_end : (ps : List (ℕ × Stmt)) (p : ℕ × Stmt) (x : ℕ) → sharing (ps ++ p ∷ []) x ≡ sharing ps x ++ cond (assigns p.1 x) (p.1 ∷ []) []
sharing_end [] p x = refl
sharing_end (r ∷ ps) p x = ap (λ l. cond (assigns r.1 x) (r.1 ∷ l) l) (sharing_end ps p x) ∙ go (assigns r.1 x)
  where
    go : (b : Bool) → cond b (r.1 ∷ sharing ps x ++ cond (assigns p.1 x) (p.1 ∷ []) []) (sharing ps x ++ cond (assigns p.1 x) (p.1 ∷ []) []) ≡ cond b (r.1 ∷ sharing ps x) (sharing ps x) ++ cond (assigns p.1 x) (p.1 ∷ []) []
    go true = refl
    go false = refl

module _ (sel : Selects) (x : ℕ) (p : ℕ × Stmt) where
  -- the clock is that of the first process
  clock_stays : (ps : List (ℕ × Stmt)) → (sharing ps x ≢ []) → clock_tree_in sel (ps ++ p ∷ []) x ≡ clock_tree_in sel ps x
  clock_stays [] h = absurd (h refl)
  clock_stays (r ∷ ps) h = let rest = clock_tree_in sel (ps ++ p ∷ []) x in by_bool (assigns r.1 x)
      (λ e. ap (λ b. cond b (sel r.0 0 1) rest) e ∙ sym (ap (λ b. cond b (sel r.0 0 1) (clock_tree_in sel ps x)) e))
      (λ e. ap (λ t. cond (assigns r.1 x) (sel r.0 0 1) t) (clock_stays ps (λ f. h (ap (λ b. cond b (r.1 ∷ sharing ps x) (sharing ps x)) e ∙ f))))

some_first : (b : Stmt) (bs : List Stmt) → b ∷ bs ≡ [] → ⊥
some_first b bs e = cc

-- the processes that don't assign the register have no part in its clock
clock_behind : (sel : Selects) (x : ℕ) (ps qs : List (ℕ × Stmt)) → sharing ps x ≡ [] → clock_tree_in sel (ps ++ qs) x ≡ clock_tree_in sel qs x
clock_behind sel x [] qs h = refl
clock_behind sel x (r ∷ ps) qs h = let shared = λ (b : Bool). cond b (r.1 ∷ sharing ps x) (sharing ps x) in by_bool (assigns r.1 x)
    (λ e. absurd (some_first r.1 (sharing ps x) (sym (ap shared e) ∙ h)))
    (λ e. ap (λ b. cond b (sel r.0 0 1) (clock_tree_in sel (ps ++ qs) x)) e ∙ clock_behind sel x ps qs (sym (ap shared e) ∙ h))

pub no_clock_tree : (sel : Selects) (x : ℕ) (ps : List (ℕ × Stmt)) → sharing ps x ≡ [] → clock_tree_in sel ps x ≡ Const 1 0
no_clock_tree sel x ps h = ap (λ l. clock_tree_in sel l x) (sym (append-nil ps)) ∙ clock_behind sel x ps [] h

shares_more : (wid : ℕ → ℕ) (ds : List Draft) (x : ℕ) (gs : List Giver) (bodies : List Stmt) (g : Giver) (body : Stmt) → AreGivers wid ds x gs bodies → IsGiver wid ds x g body → AreGivers wid ds x (gs ++ g ∷ []) (bodies ++ body ∷ [])
shares_more wid ds x [] [] g body h is = (is, tt)
shares_more wid ds x [] (b ∷ bodies) g body h is = absurd h
shares_more wid ds x (a ∷ gs) [] g body h is = absurd h
shares_more wid ds x (a ∷ gs) (b ∷ bodies) g body h is = (h.0, shares_more wid ds x gs bodies g body h.1 is)

front_none : (xs ys : List Stmt) → xs ++ ys ≡ [] → xs ≡ []
front_none [] ys e = refl
front_none (x ∷ xs) ys e = cc

module _ (wid : ℕ → ℕ) (ds es : List Draft) (g : Grows wid ds es) (old new : BTreeMap ℕ Next) (ps : List (ℕ × Stmt)) (p : ℕ × Stmt) (clock : CellId) (q : ℕ → Option CellId) (bits : ℕ → ℕ) where
  pub nexts_more : AreNexts wid ds old ps → ((x : ℕ) → givers_in new x ≡ givers_in old x ++ given_by (q x) (bits x)) → ((x : ℕ) → clock_at new x ≡ option_or (clock_at old x) (option_map (λ id. clock) (q x)))
      → ((x : ℕ) → is_some (q x) ≡ assigns p.1 x) → ((x : ℕ) (id : CellId) → q x ≡ Some id → IsWordOf wid es id x (λ sel. last_tree wid sel p.1)) → ((x i : ℕ) → i < 64 → bit_at (bits x) i ≡ may_assign wid p.1 x i)
      → IsDraftOf es clock 1 → ((sel : Selects) → tree_in sel es clock ≡ sel p.0 0 1) → AreNexts wid es new (ps ++ p ∷ [])
  nexts_more h givers clocks targets words may place tree = record {
    shares = λ x. subst (λ (l : List Giver). AreGivers wid es x l (sharing (ps ++ p ∷ []) x)) (sym (givers x)) (one x (q x) refl);
    clocks = λ x. subst (λ (o : Option CellId). IsClockOf es x o (ps ++ p ∷ [])) (sym (clocks x)) (two x (clock_at old x) (h.clocks x) (q x) refl);
  }
    where
      added : (x : ℕ) (u : Option CellId) → q x ≡ u → sharing (ps ++ p ∷ []) x ≡ sharing ps x ++ cond (is_some u) (p.1 ∷ []) []
      added x u e = sharing_end ps p x ∙ ap (λ b. sharing ps x ++ cond b (p.1 ∷ []) []) (sym (targets x) ∙ ap is_some e)

      one : (x : ℕ) (u : Option CellId) → q x ≡ u → AreGivers wid es x (givers_in old x ++ given_by u (bits x)) (sharing (ps ++ p ∷ []) x)
      one x None e = subst (λ (l : List Giver). AreGivers wid es x l (sharing (ps ++ p ∷ []) x)) (sym (append-nil (givers_in old x)))
          (subst (AreGivers wid es x (givers_in old x)) (sym (added x None e ∙ append-nil (sharing ps x))) (shares_grow wid ds es g x (givers_in old x) (sharing ps x) (h.shares x)))
      one x (Some id) e = subst (AreGivers wid es x (givers_in old x ++ record { tree = id; bits = bits x } ∷ [])) (sym (added x (Some id) e))
          (shares_more wid es x (givers_in old x) (sharing ps x) (record { tree = id; bits = bits x }) p.1 (shares_grow wid ds es g x (givers_in old x) (sharing ps x) (h.shares x)) (record { word = words x id e; bits = may x }))

      some_end : (bs : List Stmt) (b : Stmt) → bs ≡ [] → bs ++ b ∷ [] ≡ [] → ⊥
      some_end [] b e f = cc
      some_end (c ∷ bs) b e f = cc

      two : (x : ℕ) (o : Option CellId) → IsClockOf ds x o ps → (u : Option CellId) → q x ≡ u → IsClockOf es x (option_or o (option_map (λ id. clock) u)) (ps ++ p ∷ [])
      two x (Some i) k u e = (
        place-kept ds es i 1 g.longer k.0,
        λ sel. tree-kept sel ds es g.longer i k.0.0 ∙ k.1 sel ∙ sym (clock_stays sel x p ps k.2),
        λ f. k.2 (front_none (sharing ps x) (cond (assigns p.1 x) (p.1 ∷ []) []) (sym (sharing_end ps p x) ∙ f)),
      )
      two x None k None e = added x None e ∙ append-nil (sharing ps x) ∙ k
      two x None k (Some id) e = (
        place,
        λ sel. tree sel ∙ sym (clock_behind sel x ps (p ∷ []) k ∙ ap (λ b. cond b (sel p.0 0 1) (Const 1 0)) (sym (targets x) ∙ ap is_some e)),
        λ f. some_end (sharing ps x) p.1 k (sym (added x (Some id) e) ∙ f),
      )

-- ---- a register's entry

module _ (k : ℕ) (giver : Giver) (clock : CellId) (old mid new : BTreeMap ℕ Next) (next : Next) (at_others : (x : ℕ) → get nat_cmp mid x ≡ cond (x == k) None (get nat_cmp old x))
    (puts : (x : ℕ) → get nat_cmp new x ≡ cond (is_at (nat_cmp k) x) (Some next) (get nat_cmp mid x)) where
  now_at : (x : ℕ) → get nat_cmp new x ≡ cond (x == k) (Some next) (get nat_cmp old x)
  now_at x = puts x ∙ ap₂ (λ b o. cond b (Some next) o) (at_query k x) (at_others x) ∙ go (x == k) (get nat_cmp old x)
    where
      go : (b : Bool) (o : Option Next) → cond b (Some next) (cond b None o) ≡ cond b (Some next) o
      go true o = refl
      go false o = refl

  pub giver_added : next.givers.items ≡ givers_in old k ++ giver ∷ [] → (x : ℕ) → givers_in new x ≡ givers_in old x ++ cond (x == k) (giver ∷ []) []
  giver_added h x = ap (λ (o : Option Next). option_map_or (λ (n : Next). n.givers.items) o []) (now_at x) ∙ go (x == k) refl
    where
      go : (b : Bool) → (x == k) ≡ b → option_map_or (λ (n : Next). n.givers.items) (cond b (Some next) (get nat_cmp old x)) [] ≡ givers_in old x ++ cond b (giver ∷ []) []
      go true e = h ∙ ap (λ y. givers_in old y ++ giver ∷ []) (sym (eqb-true x k e))
      go false e = sym (append-nil (givers_in old x))

  pub clock_added : Some next.clock ≡ option_or (clock_at old k) (Some clock) → (x : ℕ) → clock_at new x ≡ option_or (clock_at old x) (cond (x == k) (Some clock) None)
  clock_added h x = ap (option_map (λ (n : Next). n.clock)) (now_at x) ∙ go (x == k) refl
    where
      go : (b : Bool) → (x == k) ≡ b → option_map (λ (n : Next). n.clock) (cond b (Some next) (get nat_cmp old x)) ≡ option_or (clock_at old x) (cond b (Some clock) None)
      go true e = h ∙ ap (λ y. option_or (clock_at old y) (Some clock)) (sym (eqb-true x k e))
      go false e = sym (last_or (clock_at old x))
