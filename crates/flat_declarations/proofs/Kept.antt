-- Stages stay fit as parameters and signals are declared.
use Rattle.std.proofs.Common.{◌≡◌, ℕ, zero, suc, ◌+◌, ◌^◌, ◌<◌, ◌≤◌, Bool, true, false, cond, not, ◌&&◌, nat_lt, List, [], ◌∷◌, ◌++◌, length, map, Option, Some, None, ◌⊎◌, inl, inr, refl, sym, ap, ap₂, subst, arith, bytes_eq, le-leb, ltb-false}
use Rattle.std.specs.Prelude.{slice_get, All, option_and_then}
use Rattle.std.proofs.lemmas.List.{length-map}
use Rattle.std.proofs.lemmas.List.Elements.{All-cons, All-nil, All-append}
use Rattle.cdc_base.specs.Words.{found_in}
use Rattle.verilog_ast.specs.declared.DeclKind.{DeclKind}
use Rattle.verilog_reading.specs.SourceTree.{DeclTree, ModuleTree}
use Rattle.flat_form.specs.Sizes.{is_word}
use Rattle.flat_unfolding.specs.Outcome.{Text, good, each, refused_if, judged}
use Rattle.flat_unfolding.specs.Names.{Range, width_of, Meaning, a_param, a_signal, a_memory, no_value, Names, as_value, Entry}
use Rattle.flat_unfolding.specs.Memories.{word_names}
use Rattle.flat_unfolding.specs.Parameters.{range_read}
use Rattle.flat_unfolding.specs.Declarations.{is_plain_port, declaration_order, Site, again, range_rule, array_read, declaration_rules, entry, added, taken_names, add_signal, add_memory, declared_again, add_declared, declaration, has_direction, directed}
use Rattle.flat_unfolding.specs.Design.{Stage, look_of, with_design, change_entry}
use Rattle.flat_unfolding.proofs.Steps.{good_is, good_then, judged_is, not_refused, none_of_both, each_keeps}
use Rattle.flat_unfolding.proofs.Entries.{length_of_both, same_length, range_narrow}
use Rattle.flat_unfolding.proofs.Known.{found_is}
use Rattle.flat_unfolding.proofs.Grown.{width_some}
use Rattle.flat_unfolding.proofs.Declared.{found_meant, count_some}
use Rattle.flat_names.specs.Looks.{IsFitParam, IsFit}
use Rattle.flat_names.proofs.Options.{none-some, some-same}
use Rattle.flat_declarations.proofs.Named.{word-count}

-- ---- what a name stands for among so many signals

abbrev pub IsFitMeaning : ℕ → Meaning → Type 0
IsFitMeaning n (a_param p) = IsFitParam p
IsFitMeaning n (a_signal s) = s < n
IsFitMeaning n (a_memory a) = (1 ≤ a.words) × (a.first + a.words ≤ n)
IsFitMeaning n no_value = Unit {0}

abbrev pub AreFitNames : ℕ → Names → Type 0
AreFitNames n names = (x : Text) (v : Meaning) → found_in names x ≡ Some v → IsFitMeaning n v

fit-names : (s : Stage) → IsFit (look_of s) → AreFitNames (length s.design.entries) s.names
fit-names s h x (a_param p) e = h.params x p (ap (option_and_then as_value) e)
fit-names s h x (a_signal n) e = h.signals x n (ap (option_and_then as_value) e)
fit-names s h x (a_memory a) e = h.memories x a (ap (option_and_then as_value) e)
fit-names s h x no_value e = tt

more-fit : (n m : ℕ) → n ≤ m → (v : Meaning) → IsFitMeaning n v → IsFitMeaning m v
more-fit n m l (a_param p) h = h
more-fit n m l (a_signal s) h = omega (arith, l, h)
more-fit n m l (a_memory a) h = (h.0, let k = h.1 in omega (arith, l, k))
more-fit n m l no_value h = tt

abbrev AreFitEntries : List Entry → Type 0
AreFitEntries es = (s : ℕ) (e : Entry) → slice_get es s ≡ Some e → is_word (width_of e.range) ≡ true

from-names : (t : Stage) → AreFitNames (length t.design.entries) t.names → AreFitEntries t.design.entries → length t.design.entries ≤ 2 ^ 32 → IsFit (look_of t)
from-names t h e l = record {
  params = λ x p m. h x (a_param p) (found_meant t.names x (a_param p) m);
  signals = λ x n m. h x (a_signal n) (found_meant t.names x (a_signal n) m);
  memories = λ x a m. h x (a_memory a) (found_meant t.names x (a_memory a) m);
  entries = e;
  few = l;
}

found-either : {A : Type 0} (names more : List (Text × A)) (x : Text) (v : A) → found_in (names ++ more) x ≡ Some v → (found_in names x ≡ Some v) ⊎ (found_in more x ≡ Some v)
found-either [] more x v e = inr e
found-either {A} (p ∷ names) more x v e = go (bytes_eq p.0 x) e (found-either names more x v)
  where
    go : (b : Bool) → cond b (Some p.1) (found_in (names ++ more) x) ≡ Some v → (found_in (names ++ more) x ≡ Some v → (found_in names x ≡ Some v) ⊎ (found_in more x ≡ Some v))
        → (cond b (Some p.1) (found_in names x) ≡ Some v) ⊎ (found_in more x ≡ Some v)
    go true e h = inl e
    go false e h = h e

both-fit : (n : ℕ) (names more : Names) → AreFitNames n names → All (λ (p : Text × Meaning). IsFitMeaning n p.1) more → AreFitNames n (names ++ more)
both-fit n names more h k x v e = go (found-either names more x v e)
  where
    go : (found_in names x ≡ Some v) ⊎ (found_in more x ≡ Some v) → IsFitMeaning n v
    go (inl d) = h x v d
    go (inr d) = found_is (IsFitMeaning n) more x v k d

-- ---- a name more

pub named-fit : (s : Stage) (x : Text) (v : Meaning) → IsFit (look_of s) → IsFitMeaning (length s.design.entries) v → IsFit (look_of (record { names = s.names ++ ((x, v) ∷ []); design = s.design }))
named-fit s x v h k =
    from-names (record { names = s.names ++ ((x, v) ∷ []); design = s.design })
    (both-fit (length s.design.entries) s.names ((x, v) ∷ []) (fit-names s h)
    (All-cons (λ (p : Text × Meaning). IsFitMeaning (length s.design.entries) p.1) (x, v) [] k (All-nil (λ (p : Text × Meaning). IsFitMeaning (length s.design.entries) p.1)))) h.entries h.few

-- ---- signals more

at-both : {A : Type 0} (xs ys : List A) (i : ℕ) (z : A) → slice_get (xs ++ ys) i ≡ Some z → (slice_get xs i ≡ Some z) ⊎ ((j : ℕ) × (slice_get ys j ≡ Some z))
at-both [] ys i z e = inr (i, e)
at-both (x ∷ xs) ys zero z e = inl e
at-both (x ∷ xs) ys (suc i) z e = at-both xs ys i z e

pub word-is : (r : Option Range) → width_of r ≤ 64 → is_word (width_of r) ≡ true
word-is r l = ap₂ (λ a b. a && b) (le-leb 1 (width_of r) (width_some r)) (le-leb (width_of r) 64 l)

added-fit : (s : Stage) (fs : List Entry) (names : Names) (t : Stage) → added s fs names ≡ good t → IsFit (look_of s)
    → All (λ (p : Text × Meaning). IsFitMeaning (length (s.design.entries ++ fs)) p.1) names → AreFitEntries fs → IsFit (look_of t)
added-fit s fs names t e h k f =
    let es = s.design.entries in
    let g = good_then (refused_if (nat_lt 1048576 (length es + length fs)) 601 None []) _ t e in
    let few = not_refused (nat_lt 1048576 (length es + length fs)) 601 None [] g.0 g.1 in
    let many = length_of_both es fs in
    subst (λ (u : Stage). IsFit (look_of u)) (good_is _ t g.2) (from-names (record { names = s.names ++ names; design = record s.design { entries = es ++ fs } })
    (both-fit (length (es ++ fs)) s.names names (λ x v d. more-fit (length es) (length (es ++ fs)) (omega (arith, many)) v (fit-names s h x v d)) k)
    (λ i z d. entries i z (at-both es fs i z d)) (let l = not-more few in omega (arith, many, l)))
  where
    entries : (i : ℕ) (z : Entry) → (slice_get s.design.entries i ≡ Some z) ⊎ ((j : ℕ) × (slice_get fs j ≡ Some z)) → is_word (width_of z.range) ≡ true
    entries i z (inl d) = h.entries i z d
    entries i z (inr d) = f d.0 z d.1

    not-more : nat_lt 1048576 (length s.design.entries + length fs) ≡ false → length s.design.entries + length fs ≤ 1048576
    not-more e = ltb-false 1048576 (length s.design.entries + length fs) e

taken-fit : (n : ℕ) (xs : List Text) → All (λ (p : Text × Meaning). IsFitMeaning n p.1) (taken_names xs)
taken-fit n [] = All-nil (λ (p : Text × Meaning). IsFitMeaning n p.1)
taken-fit n (x ∷ xs) = All-cons (λ (p : Text × Meaning). IsFitMeaning n p.1) (x, no_value) (taken_names xs) tt (taken-fit n xs)

ranged : (f : Text → Entry) (r : Option Range) → ((x : Text) → (f x).range ≡ r) → width_of r ≤ 64 → (xs : List Text) → AreFitEntries (map f xs)
ranged f r h l [] i e d = none-some e d
ranged f r h l (x ∷ xs) zero e d = subst (λ (z : Entry). is_word (width_of z.range) ≡ true) (some-same (f x) e d) (subst (λ q. is_word (width_of q) ≡ true) (sym (h x)) (word-is r l))
ranged f r h l (x ∷ xs) (suc i) e d = ranged f r h l xs i e d

-- ---- a signal that is declared again

changed : (f : Entry → Entry) → ((e : Entry) → (f e).range ≡ e.range) → (t : ℕ) (es : List Entry) → AreFitEntries es → AreFitEntries (change_entry f t es)
changed f h t [] k i e d = none-some e d
changed f h zero (x ∷ es) k zero e d = subst (λ (z : Entry). is_word (width_of z.range) ≡ true) (some-same (f x) e d) (subst (λ q. is_word (width_of q) ≡ true) (sym (h x)) (k zero x refl))
changed f h zero (x ∷ es) k (suc i) e d = k (suc i) e d
changed f h (suc t) (x ∷ es) k zero e d = k zero e d
changed f h (suc t) (x ∷ es) k (suc i) e d = changed f h t es (λ j z c. k (suc j) z c) i e d

again-fit : (s : Stage) (kind : DeclKind) (i : ℕ) → IsFit (look_of s) → IsFit (look_of (with_design s (record s.design { entries = change_entry (declared_again kind) i s.design.entries })))
again-fit s kind i h =
    let f = declared_again kind in let es = s.design.entries in let l = same_length f i es in
    from-names (with_design s (record s.design { entries = change_entry f i es })) (λ x v d. more-fit (length es) (length (change_entry f i es)) (omega (arith, l)) v (fit-names s h x v d))
    (changed f (λ e. refl) i es h.entries) (let k = h.few in omega (arith, k, l))

-- ---- declarations

module _ (s : Stage) (h : IsFit (look_of s)) (at : Site) (x : DeclTree) (r : Option Range) (l : width_of r ≤ 64) where
  abbrev es : List Entry
  es = s.design.entries

  signal-fit : (t : Stage) → add_signal s at x r ≡ good t → IsFit (look_of t)
  signal-fit t e =
      let f = entry at x.kind r (is_plain_port x.kind && not at.in_header) in
      added-fit s (f x.name ∷ []) ((x.name, a_signal (length es)) ∷ []) t e h
      (All-cons (λ (p : Text × Meaning). IsFitMeaning (length (es ++ (f x.name ∷ []))) p.1) (x.name, a_signal (length es)) []
      (let m = length_of_both es (f x.name ∷ []) in let k : length es < length (es ++ (f x.name ∷ [])) = omega (arith, m) in k) (All-nil (λ (p : Text × Meaning). IsFitMeaning (length (es ++ (f x.name ∷ []))) p.1)))
      (ranged f r (λ y. refl) l (x.name ∷ []))

  memory-fit : (n : ℕ) → 1 ≤ n → (t : Stage) → add_memory s at x r n ≡ good t → IsFit (look_of t)
  memory-fit n some t e =
      let f = entry at x.kind r false in let xs = word_names x.name 0 n in let gs = es ++ map f xs in
      let m : Meaning = a_memory (record { first = length es; words = n }) in
      let many = length_of_both es (map f xs) in let words = length-map xs f in let names = word-count x.name 0 n in
      added-fit s (map f xs) (taken_names xs ++ ((x.name, m) ∷ [])) t e h
      (All-append (λ (p : Text × Meaning). IsFitMeaning (length gs) p.1) (taken_names xs) ((x.name, m) ∷ [])
      (taken-fit (length gs) xs)
      (All-cons (λ (p : Text × Meaning). IsFitMeaning (length gs) p.1) (x.name, m) [] (some, let k : length es + n ≤ length gs = omega (arith, many, words, names) in k) (All-nil (λ (p : Text × Meaning). IsFitMeaning (length gs) p.1))))
      (ranged f r (λ y. refl) l xs)

  adds-fit : (o n : Option ℕ) → ((i : ℕ) → n ≡ Some i → 1 ≤ i) → (t : Stage) → add_declared s at x r o n ≡ good t → IsFit (look_of t)
  adds-fit (Some i) n w t e = subst (λ (u : Stage). IsFit (look_of u)) (good_is _ t e) (again-fit s x.kind i h)
  adds-fit None (Some n) w t e = memory-fit n (w n refl) t e
  adds-fit None None w t e = signal-fit t e

-- a declaration keeps a stage fit
pub declaration-fit : (s : Stage) (q : Site × DeclTree) (t : Stage) → declaration s q ≡ good t → IsFit (look_of s) → IsFit (look_of t)
declaration-fit s q t e h =
    let look = look_of s in let rules_of = declaration_rules look q.0 q.1 in let r = range_read look q.1.name q.1.range in
    let g = good_then (judged declaration_order q.0.place rules_of (tt {0})) _ t e in
    let none = (judged_is declaration_order q.0.place rules_of (tt {0}) g.0 g.1).0 in
    let a = (none_of_both _ (array_read look q.1 q.1.array).broken none).0 in
    let b = (none_of_both _ (range_rule look q.1 r.range (again look q.1)) a).0 in
    let c = (none_of_both _ r.broken b).1 in
    adds-fit s h q.0 q.1 r.range (range_narrow look q.1.name q.1.range c) (again look q.1) (array_read look q.1 q.1.array).count
    (λ i k. (count_some look q.1 q.1.array i k).1) t g.2

directed-fit : (m : ModuleTree) (s : Stage) (x : Text) (t : Stage) → directed m s x ≡ good t → IsFit (look_of s) → IsFit (look_of t)
directed-fit m s x t e h = let g = good_then (refused_if (not (has_direction (look_of s) x)) 306 (Some m.place) x) (λ u. good s) t e in subst (λ (u : Stage). IsFit (look_of u)) (good_is s t g.2) h

pub directions-fit : (m : ModuleTree) (s : Stage) (xs : List Text) (t : Stage) → each (directed m) s xs ≡ good t → IsFit (look_of s) → IsFit (look_of t)
directions-fit m s xs t = each_keeps (λ (u : Stage). IsFit (look_of u)) (directed m) (directed-fit m) s xs t
