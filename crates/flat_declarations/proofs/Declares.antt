-- A declaration that breaks no rule, by what it declares.
use Rattle.std.proofs.Common.{◌≡◌, ℕ, ◌+◌, ◌≤◌, max, min, Bool, true, false, cond, ◌&&◌, ◌==◌, nat_le, List, [], ◌++◌, Option, Some, None, Result, Ok, Err, refl, sym, ap, ap₂, subst, ◌∙◌, leb-true}
use Rattle.std.specs.Prelude.{is_none, option_map}
use Rattle.std.proofs.lemmas.Bool.{and_parts}
use Rattle.indexmap.specs.IndexMap.{IndexMap}
use Rattle.cdc_base.specs.declared.signal.ResetPin.{ResetPin}
use Rattle.cdc_base.specs.declared.fault.Stop.{Stop}
use Rattle.cdc_base.specs.declared.fault.Stop.TheVariants.{Refused, Memory}
use Rattle.verilog_ast.specs.declared.DeclKind.{DeclKind}
use Rattle.verilog_ast.specs.declared.DeclKind.TheVariants as k
use Rattle.verilog_reading.specs.SourceTree.{Bounds, DeclTree}
use Rattle.flat_unfolding.specs.Outcome.{Text, Broken, breaks_if, Outcome, good, then_, judged}
use Rattle.flat_unfolding.specs.Names.{Range, width_of, is_declared, Look, meaning}
use Rattle.flat_unfolding.specs.Memories.{is_depth, words_of, word_names, taken}
use Rattle.flat_unfolding.specs.Parameters.{Ranged, bounds_read, range_read}
use Rattle.flat_unfolding.specs.Declarations.{direction_of, is_inner, declaration_order, Site, if_open, again, breaks_form, range_rule, Words, count_rules, array_read, declaration_rules, add_signal, add_memory, declared_again, add_declared, declaration}
use Rattle.flat_unfolding.specs.Design.{Stage, look_of, change_entry}
use Rattle.flat_unfolding.proofs.Steps.{none_of_both, not_broken}
use Rattle.flat_unfolding.proofs.Entries.{range_narrow}
use Rattle.flat_names.specs.declared.scope.Meaning as meant
use Rattle.flat_names.specs.declared.scope.Bounds as read
use Rattle.flat_names.specs.declared.design.Design.{Design}
use Rattle.flat_names.specs.declared.fault.Order.TheVariants as order
use Rattle.flat_names.specs.Noting.{Noted, all_noted, Raises}
use Rattle.flat_names.specs.Looks.{IsFit, range_of}
use Rattle.flat_names.specs.Designs.{ShowsNames, ShowsDesign, Meets}
use Rattle.flat_names.proofs.Options.{none-some, some-same}
use Rattle.flat_declarations.specs.Declaring.{MeetsFit}
use Rattle.flat_declarations.proofs.Kept.{declaration-fit}
use Rattle.flat_declarations.proofs.Ended.{none_yet, judged-err}

-- what is met is met fit, where the next stage is
pub meets-fit : {S : Type 0} (pins : List ResetPin) (table : IndexMap Text meant.Meaning S) (o : Outcome Stage) (r : Result (Unit {0}) Stop) (d : Design)
    → ((t : Stage) → o ≡ good t → IsFit (look_of t)) → Meets pins table o r d → MeetsFit pins table o r d
meets-fit pins table o (Ok u) d h m = (m.0, m.1, m.2, h m.0 m.1)
meets-fit pins table o (Err (Refused f)) d h m = m
meets-fit pins table o (Err Memory) d h m = tt

-- ---- depths

-- a memory has 2 to 1,024 words
pub depth-small : (d : ℕ) → is_depth d ≡ true → (2 ≤ d) × (d ≤ 1024)
depth-small d h = let p = and_parts (nat_le 2 d) (nat_le d 1024) h in (leb-true 2 d p.0, leb-true d 1024 p.1)

words-depth : (kind : DeclKind) (r : Option Range) (n : ℕ) → words_of kind r ≡ Some n → is_depth n ≡ true
words-depth k.Reg (Some r) n e = go (min r.left r.right == 0) (is_depth (max r.left r.right + 1)) refl e
  where
    go : (b c : Bool) → is_depth (max r.left r.right + 1) ≡ c → cond b (cond c (Some (max r.left r.right + 1)) None) None ≡ Some n → is_depth n ≡ true
    go true true d e = subst (λ m. is_depth m ≡ true) (some-same (max r.left r.right + 1) n e) d
    go true false d e = none-some n e
    go false c d e = none-some n e
words-depth k.Reg None n e = none-some n e
words-depth k.Input r n e = none-some n e
words-depth k.Output r n e = none-some n e
words-depth k.OutputReg r n e = none-some n e
words-depth k.Wire r n e = none-some n e

pub count-depth : (look : Look) (x : DeclTree) (o : Option Bounds) (n : ℕ) → (array_read look x o).count ≡ Some n → is_depth n ≡ true
count-depth look x None n e = none-some n e
count-depth look x (Some b) n e = words-depth x.kind (bounds_read look b).range n e

count-taken : (look : Look) (x : DeclTree) (o : Option Bounds) (n : ℕ) → (array_read look x o).count ≡ Some n → (array_read look x o).broken ≡ [] → taken look.names (word_names x.name 0 n) ≡ []
count-taken look x None n e b = none-some n e
count-taken look x (Some b) n e d = ap (count_rules look x) (sym e) ∙ (none_of_both _ (count_rules look x (words_of x.kind (bounds_read look b).range)) d).1

-- what is declared again is a wire or a register
pub again-inner : (look : Look) (x : DeclTree) (i : ℕ) → again look x ≡ Some i → is_inner (direction_of x.kind) ≡ true
again-inner look x i = go (is_inner (direction_of x.kind)) (is_none x.array)
  where
    go : (b c : Bool) → cond (b && c) (if_open x.kind look.entries (meaning look x.name)) None ≡ Some i → b ≡ true
    go true c e = refl
    go false c e = none-some i e

-- ---- a declaration that breaks rules

pub declaration-err : {S : Type 0} (pins : List ResetPin) (table : IndexMap Text meant.Meaning S) (d : Design) (s : Stage) (at : Site) (x : DeclTree) (n : Noted) (y : Stop)
    → n ≡ all_noted (none_yet order.Declaration) (declaration_rules (look_of s) at x) → Raises n.found at.place (Err y) → MeetsFit pins table (declaration s (at, x)) (Err y) d
declaration-err pins table d s at x n y e h =
    let l = look_of s in
    judged-err pins table d order.Declaration at.place (declaration_rules l at x) (tt {0}) (λ u. add_declared s at x (range_read l x.name x.range).range (again l x) (array_read l x x.array).count) y
    (subst (λ (z : Noted). Raises z.found at.place (Err y)) e h)

-- ---- a declaration that breaks no rule

module _ (s : Stage) (at : Site) (x : DeclTree) (e : declaration_rules (look_of s) at x ≡ []) where
  abbrev range : Ranged
  range = range_read (look_of s) x.name x.range

  abbrev words : Words
  words = array_read (look_of s) x x.array

  abbrev twice : List Broken
  twice = breaks_if (is_none (again (look_of s) x) && is_declared s.names x.name) 304 x.name

  abbrev form : List Broken
  form = breaks_if (breaks_form at x) 306 x.name

  abbrev other : List Broken
  other = range_rule (look_of s) x range.range (again (look_of s) x)

  first : (twice ++ form ++ range.broken ++ other ≡ []) × (words.broken ≡ [])
  first = none_of_both (twice ++ form ++ range.broken ++ other) words.broken e

  third : (twice ++ form ≡ []) × (range.broken ≡ [])
  third = none_of_both (twice ++ form) range.broken (none_of_both (twice ++ form ++ range.broken) other first.0).0

  fourth : (twice ≡ []) × (form ≡ [])
  fourth = none_of_both twice form third.0

  pub narrow : width_of range.range ≤ 64
  narrow = range_narrow (look_of s) x.name x.range third.1

  pub free : again (look_of s) x ≡ None → is_declared s.names x.name ≡ false
  free n = ap (λ o. is_none o && is_declared s.names x.name) (sym n) ∙ not_broken (is_none (again (look_of s) x) && is_declared s.names x.name) 304 x.name fourth.0

  pub untaken : (n : ℕ) → words.count ≡ Some n → taken s.names (word_names x.name 0 n) ≡ []
  untaken n c = count-taken (look_of s) x x.array n c first.1

  as-added : (r : Option Range) (o n : Option ℕ) → r ≡ range.range → again (look_of s) x ≡ o → words.count ≡ n → declaration s (at, x) ≡ add_declared s at x r o n
  as-added r o n d a c =
      ap (λ bs. then_ (judged declaration_order at.place bs (tt {0})) (λ u. add_declared s at x range.range (again (look_of s) x) words.count)) e
      ∙ ap (λ q. add_declared s at x q (again (look_of s) x) words.count) (sym d) ∙ ap₂ (add_declared s at x r) a c

  module _ {S : Type 0} (pins : List ResetPin) (table : IndexMap Text meant.Meaning S) (d : Design) (is : IsFit (look_of s)) where
    fits : (t : Stage) → declaration s (at, x) ≡ good t → IsFit (look_of t)
    fits t g = declaration-fit s (at, x) t g is

    pub again-meets : (i : ℕ) (u : Unit {0}) → again (look_of s) x ≡ Some i → ShowsNames table s.names → ShowsDesign pins d (record s.design { entries = change_entry (declared_again x.kind) i s.design.entries })
        → MeetsFit pins table (declaration s (at, x)) (Ok u) d
    again-meets i u a n h =
        let t : Stage = record { names = s.names; design = record s.design { entries = change_entry (declared_again x.kind) i s.design.entries } } in
        let g : declaration s (at, x) ≡ good t = as-added range.range (Some i) words.count refl a refl in
        (t, g, record { names = n; design = h }, fits t g)

    pub signal-meets : (b : Option read.Bounds) (r : Result (Unit {0}) Stop) → again (look_of s) x ≡ None → words.count ≡ None → option_map range_of b ≡ range.range
        → Meets pins table (add_signal s at x (option_map range_of b)) r d → MeetsFit pins table (declaration s (at, x)) r d
    signal-meets b r a c w m = meets-fit pins table (declaration s (at, x)) r d fits (subst (λ o. Meets pins table o r d) (sym (as-added (option_map range_of b) None None w a c)) m)

    pub memory-meets : (b : Option read.Bounds) (n : ℕ) (r : Result (Unit {0}) Stop) → again (look_of s) x ≡ None → words.count ≡ Some n → option_map range_of b ≡ range.range
        → Meets pins table (add_memory s at x (option_map range_of b) n) r d → MeetsFit pins table (declaration s (at, x)) r d
    memory-meets b n r a c w m = meets-fit pins table (declaration s (at, x)) r d fits (subst (λ o. Meets pins table o r d) (sym (as-added (option_map range_of b) None (Some n) w a c)) m)
