-- The FIFOs that candidates make, one after the other.
use Rattle.std.proofs.Common.{◌≡◌, ◌∙◌, sym, ap, subst, refl, inl, inr, ◌⊎◌, arith, ℕ, zero, suc, ◌<◌, Less, true, Some, None, List, [], ◌∷◌, ◌++◌, length, slice_get, Contains}
use Rattle.std.specs.BTreeMap as tree
use Rattle.std.specs.BTreeMap.{BTreeMap}
use Rattle.std.specs.List.{AllByRecursion}
use Rattle.std.specs.List.Sorted.{IsStrictlySortedBy}
use Rattle.std.specs.Map.{keys_of}
use Rattle.std.specs.Ordering.{is_lt}
use Rattle.std.proofs.lemmas.List.Elements.{Contains-append_left, Contains-append_right, Contains-push, Contains-push_cases}
use Rattle.std.proofs.lemmas.Map.Entries.{btree_map_get_place}
use mathlib.Core.List.{append_assoc}
use Rattle.cell_graph.specs.declared.net.Net.{Net}
use Rattle.domains.specs.declared.Domains.{Domains}
use Rattle.cdc_model.specs.declared.scheme.GrayReg.{GrayReg}
use Rattle.cdc_model.specs.Ordered.{is_before, IsAscending}
use Rattle.cdc_model.specs.Schemes.{Sync}
use Rattle.cdc_model.proofs.Ascending.{here, nothing_in, parts}
use Rattle.cdc_model.proofs.Justify.{in_slice, slice_in}
use Rattle.fifo_scheme.specs.contracts.finder.KeyOrd.TheImpl as order
use Rattle.fifo_scheme.specs.declared.finder.Key.{Key}
use Rattle.fifo_scheme.specs.declared.finder.Sides.{Sides}
use Rattle.fifo_scheme.specs.declared.found.Fifo.{Fifo as Entry}
use Rattle.fifo_parts.specs.declared.side.Side.{Side}
use Rattle.fifo_scheme.specs.Candidates.{AreMade, HasKey, IsJudgedAt, kept, numbers_of}
use Rattle.fifo_scheme.specs.Entries.{IsListedFifo, fifo_key}
use Rattle.fifo_scheme.specs.Judged.{IsJudged}
use Rattle.fifo_scheme.proofs.KeyOrder.{keys_order}

-- ---- one item more at the end

at_end : {A : Type 0} (xs : List A) (y z : A) (j : ℕ) → slice_get (xs ++ y ∷ []) j ≡ Some z → (slice_get xs j ≡ Some z) ⊎ ((j ≡ length xs) × (y ≡ z))
at_end [] y z zero e = let s : y ≡ z = cc in inr (refl, s)
at_end [] y z (suc j) e = absurd (cc)
at_end (x ∷ xs) y z zero e = inl e
at_end (x ∷ xs) y z (suc j) e = elim (at_end xs y z j e) [ inl f ↦ inl f | inr f ↦ inr (ap suc f.0, f.1) ]

not_past : {A : Type 0} (xs : List A) (j : ℕ) (z : A) → slice_get xs j ≡ Some z → j < length xs
not_past [] j z e = absurd (cc)
not_past (x ∷ xs) zero z e = omega arith
not_past (x ∷ xs) (suc j) z e = let l = not_past xs j z e in omega arith

ascending_more : {A : Type 0} (key : A → List ℕ) (xs : List A) (y : A) → IsAscending key xs → ((x : A) → Contains xs x → is_before (key x) (key y) ≡ true) → IsAscending key (xs ++ y ∷ [])
ascending_more {A} key xs y up last i j a b l at there = elim (at_end xs y b j there) [
  | inl f ↦ elim (at_end xs y a i at) [
    | inl g ↦ up i j a b l g f
    | inr g ↦ (let p = not_past xs j b f in let e = g.0 in absurd (omega arith))
  ]
  | inr f ↦ elim (at_end xs y a i at) [
    | inl g ↦ subst (λ (z : A). is_before (key a) (key z) ≡ true) f.1 (last a (slice_in xs i a g))
    | inr g ↦ (let e = f.0 in let h = g.0 in absurd (omega arith))
  ]
]

-- ---- keys in their order

each_of : {A : Type 0} (P : A → Type 0) (xs ys : List A) (y : A) → AllByRecursion P (xs ++ y ∷ ys) → P y
each_of P [] ys y h = h.0
each_of P (x ∷ xs) ys y h = each_of P xs ys y h.1

each_key : (P : Key → Type 0) (es rest : List (Key × Sides)) (k : Key) (p : Sides) → AllByRecursion P (keys_of (es ++ (k, p) ∷ rest)) → P k
each_key P [] rest k p h = h.0
each_key P (e ∷ es) rest k p h = each_key P es rest k p h.1

-- the keys so far come before the next one
earlier : (es rest : List (Key × Sides)) (k : Key) (p : Sides) → IsStrictlySortedBy order.ghosts.cmp (keys_of (es ++ (k, p) ∷ rest)) → (e : Key × Sides) → Contains es e → order.ghosts.cmp e.0 k ≡ Less
unfolding IsStrictlySortedBy
earlier [] rest k p h e i = absurd (nothing_in e i)
earlier (d ∷ es) rest k p h e i = elim (parts d es e i) [
  | inl same ↦ subst (λ (x : Key × Sides). order.ghosts.cmp x.0 k ≡ Less) same (each_key (λ (y : Key). order.ghosts.cmp d.0 y ≡ Less) es rest k p h.0)
  | inr j ↦ earlier es rest k p h.1 e j
]

-- ---- one turn of a loop over the entries

pub turn : {A : Type 0} (xs s t all : List A) (x : A) → xs ++ s ≡ all → s ≡ x ∷ t → (xs ++ x ∷ []) ++ t ≡ all
turn xs s t all x so_far is = append_assoc xs (x ∷ []) t ∙ ap (λ ys. xs ++ ys) (sym is) ∙ so_far

pub sorted_turn : (m : BTreeMap Key Sides) (es s t : List (Key × Sides)) (x : Key × Sides) → tree.IsOrdered order.ghosts.cmp m → es ++ s ≡ m.entries → s ≡ x ∷ t
    → IsStrictlySortedBy order.ghosts.cmp (keys_of (es ++ (x.0, x.1) ∷ t))
sorted_turn m es s t x sorted so_far is = subst (λ (ys : List (Key × Sides)). IsStrictlySortedBy order.ghosts.cmp (keys_of ys)) (sym so_far ∙ ap (λ ys. es ++ ys) is) sorted

pub in_kept : (m : BTreeMap Key Sides) (k : Key) (p : Sides) → tree.IsOrdered order.ghosts.cmp m → Contains m.entries (k, p) → kept m k ≡ Some p
in_kept m k p ordered i = btree_map_get_place keys_order.total m i.0 k p ordered (in_slice m.entries (k, p) i)

pub kept_turn : (m : BTreeMap Key Sides) (es s t : List (Key × Sides)) (x : Key × Sides) → tree.IsOrdered order.ghosts.cmp m → es ++ s ≡ m.entries → s ≡ x ∷ t → kept m x.0 ≡ Some x.1
kept_turn m es s t x ordered so_far is = in_kept m x.0 x.1 ordered
    (subst (λ (ys : List (Key × Sides)). Contains ys (x.0, x.1)) (ap (λ ys. es ++ ys) (sym is) ∙ so_far) (Contains-append_right es (x ∷ t) x (here x t)))

module _ (net : Net) (domains : Domains) (syncs : List Sync) (grays : List GrayReg) (sides : List Side) where
  pub made_none : AreMade net domains syncs grays sides [] []
  made_none = record {
    only = λ e i. absurd (nothing_in e i);
    all = λ k p write read i at_write at_read fifo. absurd (nothing_in (k, p) i);
    ordered = λ i j x y l at there. absurd (cc);
  }

  module _ (es rest : List (Key × Sides)) (k : Key) (p : Sides) (has : HasKey sides k p) (sorted : IsStrictlySortedBy order.ghosts.cmp (keys_of (es ++ (k, p) ∷ rest)))
      (fifos : List Entry) (made : AreMade net domains syncs grays sides es fifos) where
    before_next : (e : Entry) → Contains fifos e → is_before (fifo_key e) (numbers_of k) ≡ true
    before_next e i =
        let (l, q, at, is) = (made.only e i).1 in
        subst (λ (ns : List ℕ). is_before ns (numbers_of k) ≡ true) (sym is) (keys_order.before l k ∙ ap is_lt (earlier es rest k p sorted (l, q) at))

    of_key : (k' : Key) (p' : Sides) (write read : Side) → ◌≡◌ {A = Key × Sides} (k, p) (k', p') → slice_get sides p'.write ≡ Some write → slice_get sides p'.read ≡ Some read
        → (slice_get sides p.write ≡ Some write) × (slice_get sides p.read ≡ Some read) × (k ≡ k')
    of_key k' p' write read e at_write at_read = (
      subst (λ (x : Key × Sides). slice_get sides x.1.write ≡ Some write) (sym e) at_write,
      subst (λ (x : Key × Sides). slice_get sides x.1.read ≡ Some read) (sym e) at_read,
      ap (λ (x : Key × Sides). x.0) e,
    )

    pub made_not : IsJudgedAt net domains syncs grays sides p None → AreMade net domains syncs grays sides (es ++ (k, p) ∷ []) fifos
    made_not judged = record {
      only = λ e i. let (is, (l, q, at, key)) = made.only e i in (is, (l, q, Contains-append_left es ((k, p) ∷ []) (l, q) at, key));
      all = λ k' p' write read i at_write at_read fifo. elim (Contains-push_cases es (k, p) (k', p') i) [
        | inl j ↦ made.all k' p' write read j at_write at_read fifo
        | inr e ↦ (let o = of_key k' p' write read e at_write at_read in absurd (judged write read o.0 o.1 fifo.0 fifo.1.0 fifo.1.1 fifo.1.2))
      ];
      ordered = made.ordered;
    }

    module _ (f : Entry) (judged : IsJudgedAt net domains syncs grays sides p (Some f)) where
      is_made : IsJudged net domains syncs grays has.0 has.1 (Some f)
      is_made = judged has.0 has.1 has.2 has.3

      key_is : fifo_key f ≡ numbers_of k
      key_is =
          let j = is_made in
          ap (λ n. n ∷ f.wg ∷ f.rb ∷ f.rg ∷ []) j.1 ∙ ap (λ n. has.0.reg.count ∷ n ∷ f.rb ∷ f.rg ∷ []) j.2 ∙ ap (λ n. has.0.reg.count ∷ has.0.reg.gray ∷ n ∷ f.rg ∷ []) j.3
          ∙ ap (λ n. has.0.reg.count ∷ has.0.reg.gray ∷ has.1.reg.count ∷ n ∷ []) j.4 ∙ ap numbers_of has.4

      pub made_more : AreMade net domains syncs grays sides (es ++ (k, p) ∷ []) (fifos ++ f ∷ [])
      made_more = record {
        only = λ e i. elim (Contains-push_cases fifos f e i) [
          | inl j ↦ (let (is, (l, q, at, key)) = made.only e j in (is, (l, q, Contains-append_left es ((k, p) ∷ []) (l, q) at, key)))
          | inr same ↦ subst (λ (x : Entry). IsListedFifo net domains syncs grays x × ((l : Key) × (q : Sides) × Contains (es ++ (k, p) ∷ []) (l, q) × (fifo_key x ≡ numbers_of l))) same
              (is_made.0, (k, p, Contains-push es (k, p), key_is))
        ];
        all = λ k' p' write read i at_write at_read fifo. elim (Contains-push_cases es (k, p) (k', p') i) [
          | inl j ↦ (let (e, in_fifos, key) = made.all k' p' write read j at_write at_read fifo in (e, Contains-append_left fifos (f ∷ []) e in_fifos, key))
          | inr same ↦ (f, Contains-push fifos f, key_is ∙ ap (λ (x : Key × Sides). numbers_of x.0) same)
        ];
        ordered = ascending_more fifo_key fifos f made.ordered (λ x i. subst (λ (ns : List ℕ). is_before (fifo_key x) ns ≡ true) (sym key_is) (before_next x i));
      }
