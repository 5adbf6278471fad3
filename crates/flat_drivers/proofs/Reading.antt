-- What is read, while a set grows by it.
use Rattle.std.proofs.Common.{◌≡◌, ℕ, ◌+◌, ◌<◌, ◌≤◌, Bool, true, false, ◌&&◌, ◌||◌, ◌==◌, List, [], ◌∷◌, ◌++◌, drop, length, get_or, refl, sym, ap, ap₂, subst, ◌∙◌, eq-eqb, ne_eqb}
use Rattle.std.specs.List.{list_any}
use Rattle.std.proofs.lemmas.Bool.{eqb-false}
use Rattle.std.proofs.lemmas.List.{drop_more, drop_all}
use Rattle.std.proofs.Math.Bool.{or-false, or_assoc}
use Rattle.cell_graph.specs.Tree.{bit_at}
use Rattle.flat_meaning.specs.Deps.{Bits, none, union}
use Rattle.flat_meaning.specs.Design.{Flat, size_in}
use Rattle.flat_form.specs.declared.flat.FlatClocked.{FlatClocked}
use Rattle.flat_form.specs.declared.masks.Masks.{Masks}
use Rattle.flat_form.specs.View.{stmt_of}
use Rattle.flat_form.specs.Masks.{bits_in, Adds}
use Rattle.flat_form.specs.Uses.{stmt_reads}
use Rattle.flat_form.proofs.MaskSets.{Left, left-step, left-same, adds-same, adds-two}
use Rattle.flat_unfolding.specs.Drivers.{bodies, is_read}
use Rattle.flat_drivers.specs.Driving.{bodies_in, clocked_in, assigns_read, bodies_read, clocks_read}
use Rattle.flat_drivers.proofs.Counted.{by_same, bit_of_one}

-- nothing is left to read
pub reads-end : {X : Type 0} (rs : List X → Bits) (old now : Masks) (whole : Bits) (all : List X) (k : ℕ) → length all ≤ k → rs [] ≡ none → Left (bits_in old) now (rs (drop k all)) whole → Adds old now whole
reads-end rs old now whole all k l step h s i m = sym (or-false (bits_in now s i)) ∙ ap (λ b. bits_in now s i || b s i) (sym (ap rs (drop_all k all l) ∙ step)) ∙ h s i m

same_test : (a b : ℕ) → (a == b) ≡ (b == a)
same_test a b = by_same (λ t. t ≡ (b == a)) a b (λ e. sym (eq-eqb b a (sym e))) (λ n. sym (ne_eqb b a (λ e. eqb-false a b n (sym e))))

four : (a b c d : Bool) → ((a || c) || (b || d)) ≡ ((a || b) || (c || d))
four true b c d = refl
four false true true d = refl
four false true false d = refl
four false false c d = refl

pub adds-clock : (a b c : Masks) (clock : ℕ) (r : Bits) → Adds a b r → Adds b c (λ s i. (s == clock) && bit_at 1 i) → Adds a c (union r (λ s i. (clock == s) && (i == 0)))
adds-clock a b c clock r h k = adds-two a b c r (λ s i. (clock == s) && (i == 0)) h
    (adds-same b c (λ s i. (s == clock) && bit_at 1 i) (λ s i. (clock == s) && (i == 0)) (λ s i l. ap₂ (λ x y. x && y) (same_test s clock) (bit_of_one i)) k)

-- what clocked processes read: their bodies and their clocks
abbrev pub clocked_read : (ℕ → ℕ) → List FlatClocked → Bits
clocked_read wid ps = union (bodies_read wid (bodies_in ps)) (clocks_read (clocked_in ps))

abbrev pub process_reads : (ℕ → ℕ) → FlatClocked → Bits
process_reads wid p = union (stmt_reads wid (stmt_of p.body)) (λ s i. (p.clock == s) && (i == 0))

pub clocked-step : (wid : ℕ → ℕ) (old : Bits) (now next : Masks) (all : List FlatClocked) (k : ℕ) (x : FlatClocked) → k < length all → x ≡ get_or all k x
    → Left old now (clocked_read wid (drop k all)) (clocked_read wid all) → Adds now next (process_reads wid x) → Left old next (clocked_read wid (drop (k + 1) all)) (clocked_read wid all)
clocked-step wid old now next all k x l is h a =
    let rest = drop (k + 1) all in
    let whole = clocked_read wid all in
    let e : drop k all ≡ x ∷ rest = drop_more all k x l ∙ ap (λ (y : FlatClocked). y ∷ rest) (sym is) in
    left-step old now next (process_reads wid x) (clocked_read wid rest) whole
    (left-same old now (clocked_read wid (x ∷ rest)) (union (process_reads wid x) (clocked_read wid rest)) whole
    (λ s i m. four (stmt_reads wid (stmt_of x.body) s i) (bodies_read wid (bodies_in rest) s i) ((x.clock == s) && (i == 0)) (clocks_read (clocked_in rest) s i))
    (subst (λ (ps : List FlatClocked). Left old now (clocked_read wid ps) whole) e h)) a

-- ---- all that a design reads

any_both : {A : Type 0} (p : A → Bool) (xs ys : List A) → list_any p (xs ++ ys) ≡ (list_any p xs || list_any p ys)
any_both p [] ys = refl
any_both p (x ∷ xs) ys = ap (λ b. p x || b) (any_both p xs ys) ∙ sym (or_assoc (p x) (list_any p xs) (list_any p ys))

pub all-read : (f : Flat) (a b c d : Masks) → ((s i : ℕ) → bits_in a s i ≡ false) → Adds a b (assigns_read (size_in f) f.assigns) → Adds b c (bodies_read (size_in f) f.combs)
    → Adds c d (union (bodies_read (size_in f) (bodies f)) (clocks_read f.clocked)) → (s i : ℕ) → i < 64 → bits_in d s i ≡ is_read f s i
all-read f a b c d empty first second third s i l =
    let x = assigns_read (size_in f) f.assigns s i in
    let y = bodies_read (size_in f) f.combs s i in
    let z = bodies_read (size_in f) (bodies f) s i in
    let k = clocks_read f.clocked s i in
    third s i l ∙ ap (λ t. t || (z || k)) (second s i l ∙ ap (λ t. t || y) (first s i l ∙ ap (λ t. t || x) (empty s i)))
    ∙ sym (or_assoc (x || y) z k) ∙ ap (λ t. t || k) (or_assoc x y z ∙ ap (λ t. x || t) (sym (any_both (λ body. stmt_reads (size_in f) body s i) f.combs (bodies f))))
