-- The synchronizer with given flops, by its first one, and what a bit reads.
use Rattle.std.specs.Prelude.{option_and_then}
use Rattle.std.proofs.Common.{◌≡◌, ◌∙◌, ◌↔◌, inl, inr, refl, sym, ap, subst, arith, rules, ℕ, ◌<◌, ◌≤◌, ◌||◌, Bool, true, false, Option, Some, None, is_some, List, [], ◌∷◌, length, slice_get, Contains, ltb-true}
use Rattle.std.specs.Cmp.Rules.{comparing}
use Rattle.std.specs.List.{list_any}
use Rattle.std.proofs.lemmas.Bool.{and_parts, or_cases}
use Rattle.std.proofs.lemmas.Option.{slice_get_within}
use Rattle.cdc_base.specs.declared.bit.Bit.{Bit}
use Rattle.cdc_base.specs.contracts.bit.BitPartialEq.TheImpl as equality
use Rattle.cell_graph.specs.declared.cell.CellId.{CellId}
use Rattle.cell_graph.specs.declared.net.Net.{Net}
use Rattle.cell_graph.specs.Cofactor.{reads}
use Rattle.domains.specs.Nets.{IsNet}
use Rattle.cdc_model.specs.declared.scheme.Sync.{Sync as SyncEntry}
use Rattle.cdc_model.specs.Found.{bits_read_by}
use Rattle.cdc_model.specs.Nets.{next_cell, next_tree, bit_count, is_within, is_register_bit, HasNextCells}
use Rattle.cdc_model.specs.Ordered.{IsAll}
use Rattle.cdc_model.proofs.Ascending.{here, later, parts, nothing_in}
use Rattle.cdc_model.proofs.Found.{by_bit}
use Rattle.cdc_model.proofs.Justify.{slice_in, in_slice}
use Rattle.cdc_model.proofs.ReadBits.{listed}
use Rattle.cert_check.specs.Rings.{BeginsAt, IsFirstOf, HaveOwnFirsts}

never : {A : Type 0} → false ≡ true → A
never e = cc

one_item : {A : Type 0} (o : Option A) (x y : A) → o ≡ Some x → o ≡ Some y → x ≡ y
one_item o x y e f = cc

pub equal_bits : (a b : Bit) → equality.ghosts.eq a b ≡ true → a ≡ b
equal_bits a b h = search rules

pub bits_equal : (a b : Bit) → a ≡ b → equality.ghosts.eq a b ≡ true
bits_equal a b e = subst (λ (c : Bit). equality.ghosts.eq a c ≡ true) e (search (comparing, rules))

-- ---- the synchronizer with given flops

module _ (es : List SyncEntry) (own : HaveOwnFirsts es) (from : Bit) (flops : List Bit) (place : Bit → Option ℕ) (places : (b : Bit) → IsFirstOf es b (place b)) where
  -- with no place of the first flop there is none
  pub none_placed : option_and_then place (slice_get flops 0) ≡ None → (e : SyncEntry) → Contains es e → e.from ≡ from → e.flops ≡ flops → ⊥
  none_placed h e i p q =
      let b = own.first e i in
      unplaced (place b.0) (ap (option_and_then place) (sym (ap (λ xs. slice_get xs 0) (sym q) ∙ b.1)) ∙ h) (places b.0)
    where
      unplaced : (o : Option ℕ) → o ≡ None → IsFirstOf es (own.first e i).0 o → ⊥
      unplaced (Some k) f none = absurd (cc)
      unplaced None f none = none i.0 e i.1 (in_slice es e i) (own.first e i).1

  -- at the place stands a synchronizer with that first flop
  placed : (k : ℕ) → option_and_then place (slice_get flops 0) ≡ Some k → (b : Bit) × (slice_get flops 0 ≡ Some b) × ((y : SyncEntry) × (slice_get es k ≡ Some y) × BeginsAt b y)
  placed k h = go (slice_get flops 0) refl h
    where
      there : (b : Bit) (o : Option ℕ) → o ≡ Some k → IsFirstOf es b o → (y : SyncEntry) × (slice_get es k ≡ Some y) × BeginsAt b y
      there b None f m = absurd (cc)
      there b (Some j) f m = let same : j ≡ k = cc in subst (λ (n : ℕ). (y : SyncEntry) × (slice_get es n ≡ Some y) × BeginsAt b y) same m

      go : (o : Option Bit) → slice_get flops 0 ≡ o → option_and_then place o ≡ Some k → (b : Bit) × (slice_get flops 0 ≡ Some b) × ((y : SyncEntry) × (slice_get es k ≡ Some y) × BeginsAt b y)
      go None f m = absurd (cc)
      go (Some b) f m = (b, f, there b (place b) m (places b))

  pub not_past : (k : ℕ) → option_and_then place (slice_get flops 0) ≡ Some k → length es ≤ k → ⊥
  not_past k h l = let p = placed k h in let m = slice_get_within es k p.2.0 p.2.1 in omega arith

  -- another one with that first flop is none
  pub other_placed : (k : ℕ) (x : SyncEntry) → option_and_then place (slice_get flops 0) ≡ Some k → slice_get es k ≡ Some x → ((x.from ≡ from) × (x.flops ≡ flops) → ⊥)
      → (e : SyncEntry) → Contains es e → e.from ≡ from → e.flops ≡ flops → ⊥
  other_placed k x h at differ e i p q =
      let b = placed k h in
      let one : BeginsAt b.0 e = ap (λ xs. slice_get xs 0) q ∙ b.1 in
      let other : BeginsAt b.0 x = subst (BeginsAt b.0) (one_item (slice_get es k) b.2.0 x b.2.1 at) b.2.2 in
      let same : e ≡ x = own.own e x b.0 i (slice_in es k x at) one other in
      differ (ap (λ (y : SyncEntry). y.from) (sym same) ∙ p, ap (λ (y : SyncEntry). y.flops) (sym same) ∙ q)

-- ---- what a bit reads

any_in : (xs : List Bit) (b : Bit) → list_any (λ y. equality.ghosts.eq y b) xs ≡ true → Contains xs b
any_in [] b h = never h
any_in (x ∷ xs) b h = elim (or_cases (equality.ghosts.eq x b) (list_any (λ y. equality.ghosts.eq y b) xs) h) [
  | inl e ↦ subst (Contains (x ∷ xs)) (equal_bits x b e) (here x xs)
  | inr k ↦ later x xs b (any_in xs b k)
]

first_true : (u v : Bool) → u ≡ true → (u || v) ≡ true
first_true true v h = refl
first_true false v h = never h

last_true : (u v : Bool) → v ≡ true → (u || v) ≡ true
last_true true v h = refl
last_true false v h = h

in_any : (xs : List Bit) (b : Bit) → Contains xs b → list_any (λ y. equality.ghosts.eq y b) xs ≡ true
in_any [] b i = absurd (nothing_in b i)
in_any (x ∷ xs) b i = elim (parts x xs b i) [
  | inl e ↦ first_true (equality.ghosts.eq x b) (list_any (λ y. equality.ghosts.eq y b) xs) (bits_equal x b e)
  | inr j ↦ last_true (equality.ghosts.eq x b) (list_any (λ y. equality.ghosts.eq y b) xs) (in_any xs b j)
]

same_bools : (u v : Bool) → (u ≡ true → v ≡ true) → (v ≡ true → u ≡ true) → u ≡ v
same_bools true v f g = sym (f refl)
same_bools false true f g = g refl
same_bools false false f g = refl

-- the list has exactly what is read
pub any_read : (xs : List Bit) (b : Bit) (v : Bool) → Contains xs b ↔ (v ≡ true) → list_any (λ y. equality.ghosts.eq y b) xs ≡ v
any_read xs b v iff = same_bools (list_any (λ y. equality.ghosts.eq y b) xs) v (λ h. iff.0 (any_in xs b h)) (λ h. in_any xs b (iff.1 h))

-- a bit of a register lies in its signal
pub register_within : (net : Net) (b : Bit) → is_register_bit net b ≡ true → b.at < bit_count net.graph.signals b.sig
register_within net b h = ltb-true b.at (bit_count net.graph.signals b.sig) (and_parts (is_some (next_cell net.regs b.sig)) (is_within net b) h).1

-- a register bit reads what is among all bits that it reads
pub reads_is : (net : Net) → IsNet net → HasNextCells net → (x b : Bit) → is_register_bit net x ≡ true → (xs : List Bit) → xs ≡ bits_read_by net [] x
    → list_any (λ y. equality.ghosts.eq y b) xs ≡ reads [] (next_tree net x.sig) x.at b
reads_is net is has x b reg xs e = go (next_cell net.regs x.sig) refl p.0
  where
    p : (is_some (next_cell net.regs x.sig) ≡ true) × (is_within net x ≡ true)
    p = and_parts (is_some (next_cell net.regs x.sig)) (is_within net x) reg

    go : (o : Option CellId) → next_cell net.regs x.sig ≡ o → is_some o ≡ true → list_any (λ y. equality.ghosts.eq y b) xs ≡ reads [] (next_tree net x.sig) x.at b
    go None f h = cc
    go (Some c) f h =
        let all : IsAll (λ a. reads [] (next_tree net x.sig) x.at a ≡ true) by_bit (bits_read_by net [] x) = listed net is has [] x (ltb-true x.at (bit_count net.graph.signals x.sig) p.1) c f in
        any_read xs b (reads [] (next_tree net x.sig) x.at b) (λ i. all.only b (subst (λ ys. Contains ys b) e i), λ h. subst (λ ys. Contains ys b) (sym e) (all.all b h))

-- what is answered with no where there is nothing
pub not_so : {R : Type 0} → (R → ⊥) → (false ≡ true) ↔ R
not_so none = (λ h. never h, λ r. absurd (none r))
