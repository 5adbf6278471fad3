-- Declarations of a module that break no rule: what they make of the signals, and of the names.
use Rattle.std.proofs.Common.{◌≡◌, ℕ, zero, suc, ◌+◌, ◌<◌, ◌≤◌, max, min, Bool, true, false, cond, not, ◌&&◌, ◌==◌, nat_lt, List, [], ◌∷◌, ◌++◌, length, map, Option, Some, None, refl, sym, ap, subst, ◌∙◌, arith, rules}
use Rattle.std.specs.Prelude.{All, option_and_then}
use Rattle.std.proofs.lemmas.Bool.{and_parts}
use Rattle.std.proofs.lemmas.List.Elements.{All-head, All-cons, All-nil, All-tail, All-push, All-append}
use Rattle.cdc_base.specs.declared.fault.Place.{Place}
use Rattle.cdc_base.specs.Words.{found_in}
use Rattle.cell_graph.proofs.Words.{number-lt}
use Rattle.verilog_ast.specs.declared.DeclKind.{DeclKind}
use Rattle.verilog_ast.specs.declared.DeclKind.TheVariants as k
use Rattle.verilog_reading.specs.SourceTree.{Bounds, ParamTree, DeclTree, ModuleTree}
use Rattle.flat_meaning.specs.Flat.{Expr, size}
use Rattle.flat_unfolding.specs.Outcome.{Text, good, each, refused_if, judged}
use Rattle.flat_unfolding.specs.Names.{Range, span, width_of, Meaning, a_param, a_signal, a_memory, no_value, Names, as_value, meaning_in, meaning, Entry, Look, width_at}
use Rattle.flat_unfolding.specs.Expressions.{read}
use Rattle.flat_unfolding.specs.Targets.{is_input}
use Rattle.flat_unfolding.specs.Memories.{is_depth, depth_of, words_of, word_names}
use Rattle.flat_unfolding.specs.Parameters.{bounds_read, range_read, Override, Overrides, held, parameter_order, value_of, sign_rule, override_of, parameter}
use Rattle.flat_unfolding.specs.Declarations.{direction_of, is_reg_kind, is_plain_port, may_be_again, declaration_order, Site, if_open, again, range_rule, array_read, declaration_rules, entry, added, taken_names, add_signal, add_memory, declared_again, add_declared, declaration, header_of, sites, header_twice, has_direction, directed, declarations}
use Rattle.flat_unfolding.specs.Design.{Design, Stage, look_of, with_design, change_entry}
use Rattle.flat_unfolding.specs.Formed.{IsFormed}
use Rattle.flat_unfolding.proofs.Steps.{good_is, good_then, judged_is, none_of_both, each_keeps, some_is}
use Rattle.flat_unfolding.proofs.Entries.{length_of_both, range_narrow}
use Rattle.flat_unfolding.proofs.Known.{open_at, top_at, IsParamSized, IsNamed, AreNamed, found_is, stands}
use Rattle.flat_unfolding.proofs.Terms.{IsWide, sized, size_wide}
use Rattle.flat_unfolding.proofs.Grown.{told, told_same, told_behind, told_both, width_some, is_declared_at, has_bits, Grows, grows_on, grows_behind, same_other, names_on, all_on}
use Rattle.flat_unfolding.proofs.Stages.{IsEntry, words_of as words_are, IsDesign, design_on, IsStage}

-- ---- changes of one entry

-- a change of an entry of which something is true
pub change_all : (p : Entry → Bool) (f : Entry → Entry) → ((e : Entry) → p e ≡ true → IsEntry e → IsEntry (f e)) → (n : ℕ) (es : List Entry) → told p false es n ≡ true → All IsEntry es → All IsEntry (change_entry f n es)
change_all p f h n [] k a = a
change_all p f h zero (e ∷ es) k a = All-cons IsEntry (f e) es (h e k (All-head IsEntry e es a)) (All-tail IsEntry e es a)
change_all p f h (suc n) (e ∷ es) k a = All-cons IsEntry e (change_entry f n es) (All-head IsEntry e es a) (change_all p f h n es k (All-tail IsEntry e es a))

-- ---- names

-- signals that the module itself declared
abbrev pub IsFresh : ℕ → Meaning → Type 0
IsFresh n (a_param p) = Unit {0}
IsFresh n (a_signal s) = n ≤ s
IsFresh n (a_memory m) = Unit {0}
IsFresh n no_value = Unit {0}

abbrev pub AreFresh : ℕ → Names → Type 0
AreFresh n names = All (λ (p : Text × Meaning). IsFresh n p.1) names

pub found_meant : (names : Names) (x : Text) (m : Meaning) → meaning_in names x ≡ Some m → found_in names x ≡ Some m
found_meant names x m = go (found_in names x)
  where
    go : (o : Option Meaning) → option_and_then as_value o ≡ Some m → o ≡ Some m
    go None e = e
    go (Some (a_param p)) e = e
    go (Some (a_signal s)) e = e
    go (Some (a_memory q)) e = e
    go (Some no_value) e = absurd (search (rules, e))

pub meant_fresh : (n : ℕ) (names : Names) (x : Text) (s : ℕ) → AreFresh n names → meaning_in names x ≡ Some (a_signal s) → n ≤ s
meant_fresh n names x s h e = found_is (IsFresh n) names x (a_signal s) h (found_meant names x (a_signal s) e)

-- ---- a module whose names are being declared: signals are declared further, and nothing else changes

pub record IsDeclaring (d : Design) (s : Stage) : Type 0 where
  pub same : s.design ≡ record d { entries = s.design.entries }
  pub grows : Grows d.entries s.design.entries
  pub entries : All IsEntry s.design.entries
  pub names : AreNamed s.design.entries s.names
  pub fresh : AreFresh (length d.entries) s.names
  pub plain : (n : ℕ) → length d.entries ≤ n → top_at s.design.entries n ≡ false

pub declared_stage : (d : Design) (s : Stage) → IsDesign d → IsDeclaring d s → IsStage s
declared_stage d s h k = record { names = k.names; design = subst IsDesign (sym k.same) (design_on d s.design.entries k.grows k.entries h) }

-- ---- parameters

held_sized : (r : Option Range) (e : Expr) (counted signed : Bool) → IsWide (size e) → width_of r ≤ 64 → IsParamSized (held r e counted signed)
held_sized None e counted signed h l = (h.0, h.1, number-lt _ (size e), l)
held_sized (Some r) e counted signed h l = (width_some (Some r), l, number-lt _ (span r), l)

abbrev pub AreWide : Overrides → Type 0
AreWide overrides = All (λ (q : Text × Override). IsWide (size q.1.value)) overrides

pub parameter_declares : (d : Design) (overrides : Overrides) → AreWide overrides → (s : Stage) (q : Place × ParamTree) (t : Stage) → IsFormed q.1.value → parameter overrides s q ≡ good t → IsDeclaring d s → IsDeclaring d t
parameter_declares d overrides o s q t f e h =
    let look = look_of s in let r = range_read look q.1.name q.1.range in let v = value_of look q.1 (override_of overrides q.1) in
    let j = judged_is parameter_order q.0 _ _ t e in
    let a = none_of_both _ v.broken (none_of_both _ (sign_rule q.1.range v) j.0).0 in
    let b = none_of_both _ r.broken a.0 in
    let w = wide (override_of overrides q.1) (λ x k. given x q.1.local k) a.1 in
    let p = held_sized r.range v.value v.is_counted v.is_signed w (range_narrow look q.1.name q.1.range b.1) in
    subst (IsDeclaring d) j.1 record {
      same = h.same;
      grows = h.grows;
      entries = h.entries;
      names = All-push (λ (p : Text × Meaning). IsNamed s.design.entries p.1) s.names (q.1.name, a_param (held r.range v.value v.is_counted v.is_signed)) h.names p;
      fresh = All-push (λ (p : Text × Meaning). IsFresh (length d.entries) p.1) s.names (q.1.name, a_param (held r.range v.value v.is_counted v.is_signed)) h.fresh tt;
      plain = h.plain;
    }
  where
    given : (x : Override) (b : Bool) → cond b None (found_in overrides q.1.name) ≡ Some x → IsWide (size x.value)
    given x true e = absurd (search (rules, e))
    given x false e = found_is (λ (y : Override). IsWide (size y.value)) overrides q.1.name x o e

    wide : (p : Option Override) → ((x : Override) → p ≡ Some x → IsWide (size x.value)) → (value_of (look_of s) q.1 p).broken ≡ [] → IsWide (size (value_of (look_of s) q.1 p).value)
    wide (Some x) k e = k x refl
    wide None k e =
        let v = read (look_of s) q.1.value in
        let words = words_are s.design.entries h.entries in
        size_wide (width_at s.design.entries) words v.expr (sized (look_of s) words (λ x. stands s.design.entries s.names x h.names) q.1.value f (none_of_both v.broken _ e).0)

-- ---- a port that is declared again

-- what may be declared again is open, and an input then becomes no register
abbrev pub again_at : DeclKind → List Entry → ℕ → Bool
again_at kind es s = told (may_be_again kind) false es s

pub again_is_open : (kind : DeclKind) (es : List Entry) (s : ℕ) → again_at kind es s ≡ true → open_at es s ≡ true
again_is_open kind [] s h = absurd (search (rules, h))
again_is_open kind (e ∷ es) zero h = (and_parts e.is_open (not (is_reg_kind kind && is_input e.direction)) h).0
again_is_open kind (e ∷ es) (suc s) h = again_is_open kind es s h

pub no_register : (kind : DeclKind) (e : Entry) → may_be_again kind e ≡ true → is_input e.direction ≡ true → is_reg_kind kind ≡ false
no_register kind e h i = go (is_reg_kind kind) (is_input e.direction) (and_parts e.is_open (not (is_reg_kind kind && is_input e.direction)) h).1 i
  where
    go : (a b : Bool) → not (a && b) ≡ true → b ≡ true → a ≡ false
    go false b h i = refl
    go true true h i = absurd (search (rules, h))
    go true false h i = absurd (search (rules, i))

open_again : (kind : DeclKind) (es : List Entry) (o : Option Meaning) (n : ℕ) → if_open kind es o ≡ Some n → (o ≡ Some (a_signal n)) × (again_at kind es n ≡ true)
open_again kind es None n e = absurd (search (rules, e))
open_again kind es (Some (a_param p)) n e = absurd (search (rules, e))
open_again kind es (Some (a_memory p)) n e = absurd (search (rules, e))
open_again kind es (Some no_value) n e = absurd (search (rules, e))
open_again kind es (Some (a_signal s)) n e = go (again_at kind es s) refl e
  where
    go : (b : Bool) → again_at kind es s ≡ b → cond b (Some s) None ≡ Some n → (Some (a_signal s) ≡ Some (a_signal n)) × (again_at kind es n ≡ true)
    go false k e = absurd (search (rules, e))
    go true k e = let i = some_is s n e in (ap (λ m. Some (a_signal m)) i, subst (λ m. again_at kind es m ≡ true) i k)

pub again_open : (s : Stage) (x : DeclTree) (n : ℕ) → again (look_of s) x ≡ Some n → (meaning (look_of s) x.name ≡ Some (a_signal n)) × (again_at x.kind s.design.entries n ≡ true)
again_open s x n = go _
  where
    go : (b : Bool) → cond b (if_open x.kind s.design.entries (meaning (look_of s) x.name)) None ≡ Some n → (meaning (look_of s) x.name ≡ Some (a_signal n)) × (again_at x.kind s.design.entries n ≡ true)
    go true e = open_again x.kind s.design.entries (meaning (look_of s) x.name) n e
    go false e = absurd (search (rules, e))

entry_again : (kind : DeclKind) (e : Entry) → may_be_again kind e ≡ true → IsEntry e → IsEntry (declared_again kind e)
entry_again kind e o h = record { narrow = h.narrow; input = no_register kind e o; top = h.top }

named_again : (kind : DeclKind) (n : ℕ) (es : List Entry) → open_at es n ≡ true → (m : Meaning) → IsNamed es m → IsNamed (change_entry (declared_again kind) n es) m
named_again kind n es o (a_param p) h = h
named_again kind n es o (a_signal s) h = subst (λ w. 1 ≤ w) (sym (told_same (λ (e : Entry). width_of e.range) 0 (declared_again kind) (λ e. refl) n es s)) h
named_again kind n es o (a_memory m) h = (
  h.0,
  λ i l.
      let w = h.1 i l in
      let a = same_other (declared_again kind) n es (m.first + i) (λ e. absurd (let x : open_at es n ≡ false = ap (open_at es) (sym e) ∙ w.2 in search (rules, o, x))) in
      (subst (λ x. 1 ≤ x) (sym a.width) w.0, a.reg ∙ w.1, a.is_open ∙ w.2),
)
named_again kind n es o no_value h = tt

again_declares : (d : Design) (s : Stage) (kind : DeclKind) (n : ℕ) → length d.entries ≤ n → again_at kind s.design.entries n ≡ true → IsDeclaring d s
    → IsDeclaring d (with_design s (record s.design { entries = change_entry (declared_again kind) n s.design.entries }))
again_declares d s kind n l o h =
    let es = s.design.entries in let f = declared_again kind in
    record {
      same = ap (λ (x : Design). record x { entries = change_entry f n es }) h.same;
      grows = λ i k.
          let b = is_declared_at d.entries i k in let a = h.grows i k in
          let c = same_other f n es i (λ e. absurd (omega (arith, b, l, e))) in
          record { width = c.width ∙ a.width; reg = c.reg ∙ a.reg; is_open = c.is_open ∙ a.is_open; top = c.top ∙ a.top };
      entries = change_all (may_be_again kind) f (entry_again kind) n es o h.entries;
      names = all_on (λ (p : Text × Meaning). IsNamed es p.1) (λ (p : Text × Meaning). IsNamed (change_entry f n es) p.1) s.names (λ p. named_again kind n es (again_is_open kind es n o) p.1) h.names;
      fresh = h.fresh;
      plain = λ i k. told_same (λ (e : Entry). e.is_top_input) false f (λ e. refl) n es i ∙ h.plain i k;
    }

-- ---- further entries

added_declares : (d : Design) (s : Stage) (fs : List Entry) (names : Names) (t : Stage) → added s fs names ≡ good t → All IsEntry fs → ((i : ℕ) → top_at fs i ≡ false)
    → AreNamed (s.design.entries ++ fs) names → AreFresh (length d.entries) names → IsDeclaring d s → IsDeclaring d t
added_declares d s fs names t e a p n r h =
    let es = s.design.entries in
    let g = good_then (refused_if (nat_lt 1048576 (length es + length fs)) 601 None []) _ t e in
    subst (IsDeclaring d) (good_is _ t g.2) record {
      same = ap (λ (x : Design). record x { entries = es ++ fs }) h.same;
      grows = grows_on d.entries es (es ++ fs) h.grows (grows_behind es fs);
      entries = All-append IsEntry es fs h.entries a;
      names = All-append (λ (p : Text × Meaning). IsNamed (es ++ fs) p.1) s.names names (names_on es (es ++ fs) s.names (grows_behind es fs) h.names) n;
      fresh = All-append (λ (p : Text × Meaning). IsFresh (length d.entries) p.1) s.names names h.fresh r;
      plain = λ i l. told_both (λ (e : Entry). e.is_top_input) false false es fs i (h.plain i l) p;
    }

length_of_names : (x : Text) (n more : ℕ) → length (word_names x n more) ≡ more
length_of_names x n zero = refl
length_of_names x n (suc more) = ap suc (length_of_names x (suc n) more)

length_of_map : {A B : Type 0} (f : A → B) (xs : List A) → length (map f xs) ≡ length xs
length_of_map f [] = refl
length_of_map f (x ∷ xs) = ap suc (length_of_map f xs)

-- names that are taken keep what holds of no value
taken_keep : (P : Meaning → Type 0) → P no_value → (xs : List Text) → All (λ (p : Text × Meaning). P p.1) (taken_names xs)
taken_keep P h [] = All-nil (λ (p : Text × Meaning). P p.1)
taken_keep P h (x ∷ xs) = All-cons (λ (p : Text × Meaning). P p.1) (x, no_value) (taken_names xs) h (taken_keep P h xs)

-- ---- the entries that a declaration adds

input_plain : (kind : DeclKind) → is_input (direction_of kind) ≡ true → is_reg_kind kind ≡ false
input_plain k.Input e = refl
input_plain k.Output e = refl
input_plain k.OutputReg e = absurd (search (rules, e))
input_plain k.Wire e = refl
input_plain k.Reg e = absurd (search (rules, e))

entry_is : (at : Site) (kind : DeclKind) (r : Option Range) (b : Bool) (x : Text) → width_of r ≤ 64 → IsEntry (entry at kind r b x)
entry_is at kind r b x l = record { narrow = l; input = input_plain kind; top = λ e. absurd (search (rules, e)) }

entries_are : (at : Site) (kind : DeclKind) (r : Option Range) (xs : List Text) → width_of r ≤ 64 → All IsEntry (map (entry at kind r false) xs)
entries_are at kind r [] l = All-nil IsEntry
entries_are at kind r (x ∷ xs) l = All-cons IsEntry (entry at kind r false x) (map (entry at kind r false) xs) (entry_is at kind r false x l) (entries_are at kind r xs l)

told_of_map : {A B : Type 0} (g : Entry → A) (d a : A) (f : B → Entry) → ((x : B) → g (f x) ≡ a) → (xs : List B) (i : ℕ) → i < length xs → told g d (map f xs) i ≡ a
told_of_map g d a f h [] i l = absurd (omega (arith, l))
told_of_map g d a f h (x ∷ xs) zero l = h x
told_of_map g d a f h (x ∷ xs) (suc i) l = told_of_map g d a f h xs i (let k : i < length xs = omega (arith, l) in k)

none_of_map : {A B : Type 0} (g : Entry → A) (d : A) (f : B → Entry) → ((x : B) → g (f x) ≡ d) → (xs : List B) (i : ℕ) → told g d (map f xs) i ≡ d
none_of_map g d f h [] i = refl
none_of_map g d f h (x ∷ xs) zero = h x
none_of_map g d f h (x ∷ xs) (suc i) = none_of_map g d f h xs i

depth_some : (r : Range) (n : ℕ) → depth_of r ≡ Some n → 1 ≤ n
depth_some r n = go (min r.left r.right == 0) (is_depth (max r.left r.right + 1))
  where
    go : (b c : Bool) → cond b (cond c (Some (max r.left r.right + 1)) None) None ≡ Some n → 1 ≤ n
    go true true e = let i = some_is _ n e in omega arith
    go true false e = absurd (search (rules, e))
    go false c e = absurd (search (rules, e))

-- a memory has words, and they are registers
words_are_some : (kind : DeclKind) (r : Option Range) (n : ℕ) → words_of kind r ≡ Some n → (is_reg_kind kind ≡ true) × (1 ≤ n)
words_are_some k.Reg (Some r) n e = (refl, depth_some r n e)
words_are_some k.Reg None n e = absurd (search (rules, e))
words_are_some k.Input r n e = absurd (search (rules, e))
words_are_some k.Output r n e = absurd (search (rules, e))
words_are_some k.OutputReg r n e = absurd (search (rules, e))
words_are_some k.Wire r n e = absurd (search (rules, e))

pub count_some : (look : Look) (x : DeclTree) (o : Option Bounds) (n : ℕ) → (array_read look x o).count ≡ Some n → (is_reg_kind x.kind ≡ true) × (1 ≤ n)
count_some look x None n e = absurd (search (rules, e))
count_some look x (Some b) n e = words_are_some x.kind (bounds_read look b).range n e

module _ (d : Design) (s : Stage) (h : IsDeclaring d s) (at : Site) (x : DeclTree) (r : Option Range) (l : width_of r ≤ 64) where
  abbrev es : List Entry
  es = s.design.entries

  base : length d.entries ≤ length es
  base = go (length d.entries) refl
    where
      go : (n : ℕ) → length d.entries ≡ n → length d.entries ≤ length es
      go zero e = omega (arith, e)
      go (suc n) e =
          let k : n < length d.entries = omega (arith, e) in
          let b = has_bits d.entries n k in
          let i = is_declared_at es n (subst (λ w. 1 ≤ w) (sym (h.grows n b).width) b) in omega (arith, e, i)

  signal_declares : (t : Stage) → add_signal s at x r ≡ good t → IsDeclaring d t
  signal_declares t e =
      let is_open = is_plain_port x.kind && not at.in_header in
      let f = entry at x.kind r is_open x.name in
      let m : Meaning = a_signal (length es) in
      let n = length_of_both es (f ∷ []) in
      added_declares d s (f ∷ []) ((x.name, m) ∷ []) t e
      (All-cons IsEntry f [] (entry_is at x.kind r is_open x.name l) (All-nil IsEntry))
      (λ i. none_of_map (λ (e : Entry). e.is_top_input) false (entry at x.kind r is_open) (λ y. refl) (x.name ∷ []) i)
      (All-cons (λ (p : Text × Meaning). IsNamed (es ++ f ∷ []) p.1) (x.name, m) [] (has_bits (es ++ f ∷ []) (length es) (let k : length es < length (es ++ f ∷ []) = omega arith in k)) (All-nil (λ (p : Text × Meaning). IsNamed (es ++ f ∷ []) p.1)))
      (All-cons (λ (p : Text × Meaning). IsFresh (length d.entries) p.1) (x.name, m) [] base (All-nil (λ (p : Text × Meaning). IsFresh (length d.entries) p.1))) h

  memory_declares : (n : ℕ) → is_reg_kind x.kind ≡ true → 1 ≤ n → (t : Stage) → add_memory s at x r n ≡ good t → IsDeclaring d t
  memory_declares n reg some t e =
      let f = entry at x.kind r false in let xs = word_names x.name 0 n in let gs = es ++ map f xs in
      let m : Meaning = a_memory (record { first = length es; words = n }) in
      let many = length_of_both es (map f xs) in let many_names = length_of_map f xs in let many_words = length_of_names x.name 0 n in
      added_declares d s (map f xs) (taken_names xs ++ ((x.name, m) ∷ [])) t e
      (entries_are at x.kind r xs l)
      (λ i. none_of_map (λ (e : Entry). e.is_top_input) false f (λ y. refl) xs i)
      (All-append (λ (p : Text × Meaning). IsNamed gs p.1) (taken_names xs) ((x.name, m) ∷ [])
      (taken_keep (IsNamed gs) tt xs)
      (All-cons (λ (p : Text × Meaning). IsNamed gs p.1) (x.name, m) [] (
        some,
        λ i k.
            let c : i < length xs = omega arith in (
              has_bits gs (length es + i) (let b : length es + i < length gs = omega arith in b),
              told_behind (λ (e : Entry). e.is_reg) false es (map f xs) i ∙ told_of_map (λ (e : Entry). e.is_reg) false true f (λ y. reg) xs i c,
              told_behind (λ (e : Entry). e.is_open) false es (map f xs) i ∙ none_of_map (λ (e : Entry). e.is_open) false f (λ y. refl) xs i,
            ),
      )
      (All-nil (λ (p : Text × Meaning). IsNamed gs p.1))))
      (All-append (λ (p : Text × Meaning). IsFresh (length d.entries) p.1) (taken_names xs) ((x.name, m) ∷ []) (taken_keep (IsFresh (length d.entries)) tt xs)
      (All-cons (λ (p : Text × Meaning). IsFresh (length d.entries) p.1) (x.name, m) [] tt (All-nil (λ (p : Text × Meaning). IsFresh (length d.entries) p.1)))) h

  adds_declare : (o n : Option ℕ) → ((i : ℕ) → o ≡ Some i → (length d.entries ≤ i) × (again_at x.kind es i ≡ true)) → ((i : ℕ) → n ≡ Some i → (is_reg_kind x.kind ≡ true) × (1 ≤ i))
      → (t : Stage) → add_declared s at x r o n ≡ good t → IsDeclaring d t
  adds_declare (Some i) n a w t e = let b = a i refl in subst (IsDeclaring d) (good_is _ t e) (again_declares d s x.kind i b.0 b.1 h)
  adds_declare None (Some n) a w t e = let b = w n refl in memory_declares n b.0 b.1 t e
  adds_declare None None a w t e = signal_declares t e

pub declaration_declares : (d : Design) (s : Stage) (q : Site × DeclTree) (t : Stage) → declaration s q ≡ good t → IsDeclaring d s → IsDeclaring d t
declaration_declares d s q t e h =
    let look = look_of s in let rules_of = declaration_rules look q.0 q.1 in let r = range_read look q.1.name q.1.range in
    let g = good_then (judged declaration_order q.0.place rules_of (tt {0})) _ t e in
    let none = (judged_is declaration_order q.0.place rules_of (tt {0}) g.0 g.1).0 in
    let a = (none_of_both _ (array_read look q.1 q.1.array).broken none).0 in
    let b = (none_of_both _ (range_rule look q.1 r.range (again look q.1)) a).0 in
    let c = (none_of_both _ r.broken b).1 in
    adds_declare d s h q.0 q.1 r.range (range_narrow look q.1.name q.1.range c) (again look q.1) (array_read look q.1 q.1.array).count
    (λ i k. let o = again_open s q.1 i k in (meant_fresh (length d.entries) s.names q.1.name i h.fresh o.0, o.1))
    (count_some look q.1 q.1.array) t g.2

directed_declares : (d : Design) (m : ModuleTree) (s : Stage) (x : Text) (t : Stage) → directed m s x ≡ good t → IsDeclaring d s → IsDeclaring d t
directed_declares d m s x t e h = let g = good_then (refused_if (not (has_direction (look_of s) x)) 306 (Some m.place) x) (λ u. good s) t e in subst (IsDeclaring d) (good_is s t g.2) h

pub declarations_declare : (d : Design) (prefix : Text) (m : ModuleTree) (s t : Stage) → declarations prefix m s ≡ good t → IsDeclaring d s → IsDeclaring d t
declarations_declare d prefix m s t e h =
    let g = good_then (header_twice m) _ t e in
    let k = good_then (each declaration s (sites prefix m)) _ t g.2 in
    each_keeps (IsDeclaring d) (directed m) (directed_declares d m) k.0 (header_of m) t k.2 (each_keeps (IsDeclaring d) declaration (declaration_declares d) s (sites prefix m) k.0 k.1 h)
