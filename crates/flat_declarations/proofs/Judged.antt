-- The rules of a declaration as they are noted, one after another.
use Rattle.std.proofs.Common.{◌≡◌, ℕ, suc, ◌+◌, ◌-◌, ◌<◌, Bool, true, false, cond, ◌&&◌, ◌==◌, List, [], ◌++◌, Option, Some, None, refl, sym, ap, ◌∙◌, arith, rules}
use Rattle.std.specs.Prelude.{filter, is_some, is_none}
use Rattle.verilog_ast.specs.declared.Range as written
use Rattle.verilog_reading.specs.SourceTree.{Bounds, DeclTree, maybe, bounds_of}
use Rattle.flat_unfolding.specs.Outcome.{Text, Broken, breaks, breaks_if}
use Rattle.flat_unfolding.specs.Names.{Range, Names, is_declared, Look, meaning, word_name}
use Rattle.flat_unfolding.specs.Memories.{words_of, word_names, taken}
use Rattle.flat_unfolding.specs.Parameters.{bounds_read, range_read}
use Rattle.flat_unfolding.specs.Declarations.{direction_of, is_inner, Site, if_open, again, breaks_form, range_rule, count_rules, array_read, declaration_rules}
use Rattle.flat_unfolding.proofs.Steps.{none_of_both}
use Rattle.flat_names.specs.declared.fault.Order.TheVariants as order
use Rattle.flat_names.specs.Noting.{Noted, all_noted, passed_on}
use Rattle.flat_names.proofs.Options.{none-some}
use Rattle.flat_names.proofs.Notes.{noted-both, then-noted}
use Rattle.flat_declarations.proofs.Ended.{none_yet}
use Rattle.flat_declarations.proofs.Rules.{array-noted}

-- ---- an array

pub array-meant : (l : Look) (x : DeclTree) (b : Bounds) (inner f0 f1 f2 : Noted) (r : Option Range) (o : Option ℕ) → r ≡ (bounds_read l b).range
    → inner ≡ all_noted (none_yet order.Declaration) (bounds_read l b).broken → f1 ≡ passed_on 305 inner.found f0 → o ≡ words_of x.kind r → f2 ≡ all_noted f1 (count_rules l x o)
    → (f2 ≡ all_noted f0 (array_read l x (Some b)).broken) × ((array_read l x (Some b)).count ≡ o)
array-meant l x b inner f0 f1 f2 r o e d p k g =
    let told : List Broken = filter (λ (y : Broken). y.number == 305) (bounds_read l b).broken in
    let same : words_of x.kind (bounds_read l b).range ≡ o = ap (words_of x.kind) (sym e) ∙ sym k in
    (then-noted f0 f1 f2 told (count_rules l x o) (array-noted l b inner f0 f1 d p) g ∙ ap (λ n. all_noted f0 (told ++ count_rules l x n)) (sym same), same)

-- an array that is no memory breaks a rule
pub array-none : {A : Type 0} (l : Look) (x : DeclTree) (b : Bounds) → (array_read l x (Some b)).count ≡ None → (array_read l x (Some b)).broken ≡ [] → A
array-none l x b e k =
    let told : List Broken = filter (λ (y : Broken). y.number == 305) (bounds_read l b).broken in
    let n : breaks 319 x.name ≡ [] = ap (count_rules l x) (sym e) ∙ (none_of_both told (count_rules l x (words_of x.kind (bounds_read l b).range)) k).1 in
    absurd (search (rules, n))

-- ---- a declaration

-- a range was read only where one stands
pub read-some : (l : Look) (x : Text) (o : Option written.Range) → is_some (range_read l x (maybe bounds_of o)).range ≡ true → is_some o ≡ true
read-some l x None e = e
read-some l x (Some r) e = refl

no-array : (look : Look) (x : DeclTree) (i : ℕ) → again look x ≡ Some i → x.array ≡ None
no-array look x i = go (is_inner (direction_of x.kind)) x.array
  where
    go : (b : Bool) (o : Option Bounds) → cond (b && is_none o) (if_open x.kind look.entries (meaning look x.name)) None ≡ Some i → o ≡ None
    go b None e = refl
    go true (Some a) e = none-some i e
    go false (Some a) e = none-some i e

module _ (l : Look) (at : Site) (x : DeclTree) (f0 f1 f2 f3 : Noted)
    (e1 : f1 ≡ all_noted f0 (breaks_if (is_none (again l x) && is_declared l.names x.name) 304 x.name)) (e2 : f2 ≡ all_noted f1 (breaks_if (breaks_form at x) 306 x.name))
    (e3 : f3 ≡ all_noted f2 (range_read l x.name x.range).broken) where
  abbrev heads : List Broken
  heads = breaks_if (is_none (again l x) && is_declared l.names x.name) 304 x.name ++ breaks_if (breaks_form at x) 306 x.name ++ (range_read l x.name x.range).broken

  headed : f3 ≡ all_noted f0 heads
  headed = then-noted f0 f2 f3 (breaks_if (is_none (again l x) && is_declared l.names x.name) 304 x.name ++ breaks_if (breaks_form at x) 306 x.name) (range_read l x.name x.range).broken
      (then-noted f0 f1 f2 (breaks_if (is_none (again l x) && is_declared l.names x.name) 304 x.name) (breaks_if (breaks_form at x) 306 x.name) e1 e2) e3

  judged-by : (f4 f5 : Noted) (o : Option ℕ) (a : Option Bounds) → again l x ≡ o → x.array ≡ a → f4 ≡ all_noted f3 (range_rule l x (range_read l x.name x.range).range o) → f5 ≡ all_noted f4 (array_read l x a).broken
      → f5 ≡ all_noted f0 (declaration_rules l at x)
  judged-by f4 f5 o a d k g h =
      then-noted f0 f4 f5 (heads ++ range_rule l x (range_read l x.name x.range).range o) (array_read l x a).broken (then-noted f0 f3 f4 heads (range_rule l x (range_read l x.name x.range).range o) headed g) h
      ∙ ap (λ q. all_noted f0 (heads ++ range_rule l x (range_read l x.name x.range).range q ++ (array_read l x a).broken)) (sym d)
      ∙ ap (λ q. all_noted f0 (heads ++ range_rule l x (range_read l x.name x.range).range (again l x) ++ (array_read l x q).broken)) (sym k)

  pub judged-again : (f4 : Noted) (i : ℕ) → again l x ≡ Some i → f4 ≡ all_noted f3 (range_rule l x (range_read l x.name x.range).range (Some i)) → f4 ≡ all_noted f0 (declaration_rules l at x)
  judged-again f4 i d g = judged-by f4 f4 (Some i) None d (no-array l x i d) g refl

  pub judged-signal : again l x ≡ None → x.array ≡ None → f3 ≡ all_noted f0 (declaration_rules l at x)
  judged-signal d k = judged-by f3 f3 None None d k refl refl

  pub judged-memory : (f4 : Noted) (b : Bounds) → again l x ≡ None → x.array ≡ Some b → f4 ≡ all_noted f3 (array_read l x (Some b)).broken → f4 ≡ all_noted f0 (declaration_rules l at x)
  judged-memory f4 b d k h = judged-by f3 f4 None (Some b) d k refl h

-- its count, where its array is known
pub count-at : (l : Look) (x : DeclTree) (a : Option Bounds) → x.array ≡ a → (array_read l x x.array).count ≡ (array_read l x a).count
count-at l x a e = ap (λ q. (array_read l x q).count) e

pub broken-at : (l : Look) (at : Site) (x : DeclTree) (a : Option Bounds) → x.array ≡ a → declaration_rules l at x ≡ [] → (array_read l x a).broken ≡ []
broken-at l at x a e k =
    ap (λ q. (array_read l x q).broken) (sym e) ∙ (none_of_both (breaks_if (is_none (again l x) && is_declared l.names x.name) 304 x.name ++ breaks_if (breaks_form at x) 306 x.name ++ (range_read l x.name x.range).broken
    ++ range_rule l x (range_read l x.name x.range).range (again l x)) (array_read l x x.array).broken k).1

-- ---- names of words

pub word-noted : (names : Names) (x : Text) (k n : ℕ) (f g : Noted) (y : Text) → k < n → y ≡ word_name x k → g ≡ all_noted f (breaks_if (is_declared names y) 304 y)
    → all_noted f (taken names (word_names x k (n - k))) ≡ all_noted g (taken names (word_names x (k + 1) (n - (k + 1))))
word-noted names x k n f g y l e d =
    let m = n - (k + 1) in
    let more : n - k ≡ suc m = omega (arith, l) in
    let told : g ≡ all_noted f (breaks_if (is_declared names (word_name x k)) 304 (word_name x k)) = d ∙ ap (λ z. all_noted f (breaks_if (is_declared names z) 304 z)) e in
    ap (λ i. all_noted f (taken names (word_names x k i))) more
    ∙ noted-both f (breaks_if (is_declared names (word_name x k)) 304 (word_name x k)) (taken names (word_names x (suc k) m))
    ∙ ap (λ h. all_noted h (taken names (word_names x (suc k) m))) (sym told)
    ∙ ap (λ i. all_noted g (taken names (word_names x i m))) (let q : suc k ≡ k + 1 = omega arith in q)
