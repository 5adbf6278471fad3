-- A port that its module's header or its items first declare as an input is no register, however it is declared again.
use Rattle.std.proofs.Common.{◌≡◌, ℕ, zero, suc, ◌+◌, ◌≤◌, Bool, true, false, cond, not, ◌&&◌, nat_lt, List, [], ◌∷◌, ◌++◌, length, map, Option, Some, None, refl, sym, ap, ap₂, subst, ◌∙◌, arith, rules, bytes_eq}
use Rattle.std.specs.Prelude.{is_some, is_none, option_and_then}
use Rattle.std.proofs.lemmas.List.{append_assoc, append-nil}
use Rattle.std.proofs.lemmas.Slice.Eq.{bytes_eq-Decides}
use Rattle.cdc_base.specs.declared.fault.Place.{Place}
use Rattle.cdc_base.specs.Words.{found_in}
use Rattle.verilog_ast.specs.declared.DeclKind.{DeclKind}
use Rattle.verilog_ast.specs.declared.DeclKind.TheVariants as k
use Rattle.verilog_reading.specs.SourceTree.{Bounds, DeclTree, ModuleTree}
use Rattle.flat_unfolding.specs.Outcome.{Text, good, each, breaks_if, refused_if, judged}
use Rattle.flat_unfolding.specs.Names.{Range, Meaning, a_signal, a_memory, Names, is_declared, as_value, meaning_in, meaning, Direction, inner, inward, Entry, Look, width_at, direction_at}
use Rattle.flat_unfolding.specs.Targets.{is_input}
use Rattle.flat_unfolding.specs.Memories.{words_of, word_names}
use Rattle.flat_unfolding.specs.Parameters.{bounds_read, range_read}
use Rattle.flat_unfolding.specs.Declarations.{if_open, add_signal, add_memory, direction_of, is_inner, is_reg_kind, is_plain_port, declaration_order, Site, again, range_rule, array_read, declaration_rules, entry, taken_names, add_declared, declared_again, declaration, header_of, item_decls, header_decls, sites, header_twice, has_direction, directed, declarations}
use Rattle.flat_unfolding.specs.Instances.{first_direction, port_direction}
use Rattle.flat_unfolding.specs.Design.{Design, Stage, look_of, with_design, change_entry}
use Rattle.flat_unfolding.proofs.Steps.{good_is, good_then, judged_is, not_broken, none_of_both, each_keeps, some_is}
use Rattle.flat_unfolding.proofs.Known.{reg_at, AreNamed, StandsIf, stands}
use Rattle.flat_unfolding.proofs.Grown.{told_same, told_before, told_behind, is_declared_at}
use Rattle.flat_unfolding.proofs.Declared.{again_at, no_register, found_meant, IsDeclaring, declaration_declares, again_open}

-- ---- the first direction of a name

no_direction : (x : Text) (ds : List DeclTree) (d : DeclTree) → first_direction x ds ≡ None → first_direction x (ds ++ d ∷ []) ≡ first_direction x (d ∷ [])
no_direction x [] d e = refl
no_direction x (c ∷ ds) d e = go (bytes_eq c.name x && not (is_inner (direction_of c.kind))) e (no_direction x ds d)
  where
    go : (b : Bool) → cond b (Some (direction_of c.kind)) (first_direction x ds) ≡ None → (first_direction x ds ≡ None → first_direction x (ds ++ d ∷ []) ≡ first_direction x (d ∷ []))
        → cond b (Some (direction_of c.kind)) (first_direction x (ds ++ d ∷ [])) ≡ first_direction x (d ∷ [])
    go true e r = absurd (search (rules, e))
    go false e r = r e

a_direction : (x : Text) (ds : List DeclTree) (d : DeclTree) (r : Direction) → first_direction x ds ≡ Some r → first_direction x (ds ++ d ∷ []) ≡ Some r
a_direction x [] d r e = absurd (search (rules, e))
a_direction x (c ∷ ds) d r e = go (bytes_eq c.name x && not (is_inner (direction_of c.kind))) e (a_direction x ds d r)
  where
    go : (b : Bool) → cond b (Some (direction_of c.kind)) (first_direction x ds) ≡ Some r → (first_direction x ds ≡ Some r → first_direction x (ds ++ d ∷ []) ≡ Some r)
        → cond b (Some (direction_of c.kind)) (first_direction x (ds ++ d ∷ [])) ≡ Some r
    go true e f = e
    go false e f = f e

-- ---- names behind others

found_front : {A : Type 0} (xs ys : List (Text × A)) (x : Text) (a : A) → found_in xs x ≡ Some a → found_in (xs ++ ys) x ≡ Some a
found_front [] ys x a e = absurd (search (rules, e))
found_front (p ∷ xs) ys x a e = go (bytes_eq p.0 x) e (found_front xs ys x a)
  where
    go : (b : Bool) → cond b (Some p.1) (found_in xs x) ≡ Some a → (found_in xs x ≡ Some a → found_in (xs ++ ys) x ≡ Some a) → cond b (Some p.1) (found_in (xs ++ ys) x) ≡ Some a
    go true e f = e
    go false e f = f e

found_behind : {A : Type 0} (xs ys : List (Text × A)) (x : Text) → found_in xs x ≡ None → found_in (xs ++ ys) x ≡ found_in ys x
found_behind [] ys x e = refl
found_behind (p ∷ xs) ys x e = go (bytes_eq p.0 x) e (found_behind xs ys x)
  where
    go : (b : Bool) → cond b (Some p.1) (found_in xs x) ≡ None → (found_in xs x ≡ None → found_in (xs ++ ys) x ≡ found_in ys x) → cond b (Some p.1) (found_in (xs ++ ys) x) ≡ found_in ys x
    go true e f = absurd (search (rules, e))
    go false e f = f e

-- ---- what is known of inputs while a module's names are declared

abbrev IsInputAt : List Entry → ℕ → Type 0
IsInputAt es n = (reg_at es n ≡ false) × (direction_at es n ≡ inward)

record KnowsInputs (ds : List DeclTree) (s : Stage) : Type 0 where
  pub inputs : (x : Text) (n : ℕ) → meaning_in s.names x ≡ Some (a_signal n) → first_direction x ds ≡ Some inward → IsInputAt s.design.entries n
  pub others : (x : Text) → found_in s.names x ≡ None → first_direction x ds ≡ None

input_kind : (kind : DeclKind) → direction_of kind ≡ inward → is_reg_kind kind ≡ false
input_kind k.Input e = refl
input_kind k.Output e = absurd (search (rules, e))
input_kind k.OutputReg e = absurd (search (rules, e))
input_kind k.Wire e = absurd (search (rules, e))
input_kind k.Reg e = absurd (search (rules, e))

-- an input that is declared again becomes no register
reg_again : (kind : DeclKind) (n : ℕ) (es : List Entry) → again_at kind es n ≡ true → (s : ℕ) → IsInputAt es s → reg_at (change_entry (declared_again kind) n es) s ≡ false
reg_again kind n [] o s h = h.0
reg_again kind zero (e ∷ es) o zero h = no_register kind e o (ap is_input h.1)
reg_again kind zero (e ∷ es) o (suc s) h = h.0
reg_again kind (suc n) (e ∷ es) o zero h = h.0
reg_again kind (suc n) (e ∷ es) o (suc s) h = reg_again kind n es o s h

-- the direction that one declaration gives
one_direction : (x : Text) (d : DeclTree) (r : Direction) → first_direction x (d ∷ []) ≡ Some r → (bytes_eq d.name x ≡ true) × (is_inner (direction_of d.kind) ≡ false) × (direction_of d.kind ≡ r)
one_direction x d r e = go (bytes_eq d.name x) (is_inner (direction_of d.kind)) refl refl e
  where
    go : (a b : Bool) → bytes_eq d.name x ≡ a → is_inner (direction_of d.kind) ≡ b → cond (a && not b) (Some (direction_of d.kind)) None ≡ Some r
        → (bytes_eq d.name x ≡ true) × (is_inner (direction_of d.kind) ≡ false) × (direction_of d.kind ≡ r)
    go true false h k e = (h, k, some_is (direction_of d.kind) r e)
    go true true h k e = absurd (search (rules, e))
    go false b h k e = absurd (search (rules, e))

none_inner : (x : Text) (d : DeclTree) → is_inner (direction_of d.kind) ≡ true → first_direction x (d ∷ []) ≡ None
none_inner x d h = go (bytes_eq d.name x) (is_inner (direction_of d.kind)) h
  where
    go : (a b : Bool) → b ≡ true → cond (a && not b) (Some (direction_of d.kind)) None ≡ None
    go true true h = refl
    go true false h = absurd (search (rules, h))
    go false b h = refl

none_other : (x : Text) (d : DeclTree) → bytes_eq d.name x ≡ false → first_direction x (d ∷ []) ≡ None
none_other x d h = ap (λ b. cond (b && not (is_inner (direction_of d.kind))) (Some (direction_of d.kind)) None) h

same_text : (x y : Text) → bytes_eq x y ≡ true → x ≡ y
same_text x y e = (bytes_eq-Decides x y).0 e

module _ (ds : List DeclTree) (s : Stage) (h : KnowsInputs ds s) (named : AreNamed s.design.entries s.names) (d : DeclTree) where
  abbrev more : List DeclTree
  more = ds ++ d ∷ []

  -- a signal that was declared before: its direction stays, as its name isn't declared anew
  before : (new : is_inner (direction_of d.kind) ≡ false → found_in s.names d.name ≡ None) (x : Text) (n : ℕ) → meaning_in s.names x ≡ Some (a_signal n) → first_direction x more ≡ Some inward → first_direction x ds ≡ Some inward
  before new x n m e = go (first_direction x ds) refl
    where
      go : (o : Option Direction) → first_direction x ds ≡ o → first_direction x ds ≡ Some inward
      go (Some r) f = f ∙ sym (a_direction x ds d r f) ∙ e
      go None f =
          let o = one_direction x d inward (sym (no_direction x ds d f) ∙ e) in
          let i = same_text d.name x o.0 in
          let k : found_in s.names x ≡ None = subst (λ y. found_in s.names y ≡ None) i (new o.1) in
          let l = found_meant s.names x (a_signal n) m in absurd (search (rules, sym k ∙ l))

  again_knows : (kind : DeclKind) (n : ℕ) → is_inner (direction_of d.kind) ≡ true → again_at kind s.design.entries n ≡ true
      → KnowsInputs more (with_design s (record s.design { entries = change_entry (declared_again kind) n s.design.entries }))
  again_knows kind n i o = record {
    inputs = λ x m e f.
        let a = h.inputs x m e (before (λ j. absurd (search (rules, i, j))) x m e f) in
        (reg_again kind n s.design.entries o m a, told_same (λ (e : Entry). e.direction) inner (declared_again kind) (λ e. refl) n s.design.entries m ∙ a.1);
    others = λ x e. no_direction x ds d (h.others x e) ∙ none_inner x d i;
  }

  -- ---- further names and signals

  further_knows : (fs : List Entry) (names : Names) → (is_inner (direction_of d.kind) ≡ false → found_in s.names d.name ≡ None)
      → ((x : Text) (n : ℕ) → found_in names x ≡ Some (a_signal n) → first_direction x (d ∷ []) ≡ Some inward → IsInputAt (s.design.entries ++ fs) n)
      → ((x : Text) → found_in names x ≡ None → first_direction x (d ∷ []) ≡ None)
      → KnowsInputs more (record { names = s.names ++ names; design = record s.design { entries = s.design.entries ++ fs } })
  further_knows fs names new fresh rest = record {
    inputs = λ x n m e. go x n (found_in s.names x) refl (found_meant (s.names ++ names) x (a_signal n) m) e;
    others = λ x e. beyond x (found_in s.names x) refl e;
  }
    where
      old : (x : Text) (n : ℕ) → meaning_in s.names x ≡ Some (a_signal n) → first_direction x more ≡ Some inward → IsInputAt (s.design.entries ++ fs) n
      old x n m e =
          let a = h.inputs x n m (before new x n m e) in
          let w : 1 ≤ width_at s.design.entries n = subst (StandsIf s.design.entries) m (stands s.design.entries s.names x named) in
          let l = is_declared_at s.design.entries n w in
          (told_before (λ (e : Entry). e.is_reg) false s.design.entries fs n l ∙ a.0, told_before (λ (e : Entry). e.direction) inner s.design.entries fs n l ∙ a.1)

      go : (x : Text) (n : ℕ) (o : Option Meaning) → found_in s.names x ≡ o → found_in (s.names ++ names) x ≡ Some (a_signal n) → first_direction x more ≡ Some inward
          → IsInputAt (s.design.entries ++ fs) n
      go x n (Some q) f m e =
          let i : Some q ≡ Some (a_signal n) = sym (found_front s.names names x q f) ∙ m in
          old x n (ap (option_and_then as_value) (f ∙ i)) e
      go x n None f m e = fresh x n (sym (found_behind s.names names x f) ∙ m) (sym (no_direction x ds d (h.others x f)) ∙ e)

      beyond : (x : Text) (o : Option Meaning) → found_in s.names x ≡ o → found_in (s.names ++ names) x ≡ None → first_direction x more ≡ None
      beyond x (Some q) f e = absurd (search (rules, sym (found_front s.names names x q f) ∙ e))
      beyond x None f e = no_direction x ds d (h.others x f) ∙ rest x (sym (found_behind s.names names x f) ∙ e)

  signal_knows : (at : Site) (r : Option Range) → found_in s.names d.name ≡ None → (t : Stage) → add_signal s at d r ≡ good t → KnowsInputs more t
  signal_knows at r new t e =
      let es = s.design.entries in let fs = entry at d.kind r (is_plain_port d.kind && not at.in_header) d.name ∷ [] in
      let g = good_then (refused_if (nat_lt 1048576 (length es + 1)) 601 None []) _ t e in
      subst (KnowsInputs more) (good_is _ t g.2) (further_knows fs ((d.name, a_signal (length es)) ∷ []) (λ i. new)
      (λ x n f o. fresh x n (bytes_eq d.name x) f (one_direction x d inward o).2) (λ x f. none_other x d (rest x (bytes_eq d.name x) f)))
    where
      fresh : (x : Text) (n : ℕ) (b : Bool) → cond b (Some (a_signal (length s.design.entries))) None ≡ Some (a_signal n) → direction_of d.kind ≡ inward
          → IsInputAt (s.design.entries ++ entry at d.kind r (is_plain_port d.kind && not at.in_header) d.name ∷ []) n
      fresh x n false f k = absurd (search (rules, f))
      fresh x n true f k =
          let es = s.design.entries in let fs = entry at d.kind r (is_plain_port d.kind && not at.in_header) d.name ∷ [] in
          let i : length es + 0 ≡ n = (let z : length es + 0 ≡ length es = omega arith in z) ∙ same_signal (length es) n f in
          (ap (reg_at (es ++ fs)) (sym i) ∙ told_behind (λ (e : Entry). e.is_reg) false es fs 0 ∙ input_kind d.kind k, ap (direction_at (es ++ fs)) (sym i) ∙ told_behind (λ (e : Entry). e.direction) inner es fs 0 ∙ k)
        where
          same_signal : (a b : ℕ) → Some (a_signal a) ≡ Some (a_signal b) → a ≡ b
          same_signal a b e = search (rules, e)

      rest : (x : Text) (b : Bool) → cond b (Some (a_signal (length s.design.entries))) None ≡ None → b ≡ false
      rest x false e = refl
      rest x true e = absurd (search (rules, e))

  memory_knows : (at : Site) (r : Option Range) (n : ℕ) → is_inner (direction_of d.kind) ≡ true → (t : Stage) → add_memory s at d r n ≡ good t → KnowsInputs more t
  memory_knows at r n i t e =
      let es = s.design.entries in let xs = word_names d.name 0 n in
      let g = good_then (refused_if (nat_lt 1048576 (length es + length (map (entry at d.kind r false) xs))) 601 None []) _ t e in
      subst (KnowsInputs more) (good_is _ t g.2) (further_knows (map (entry at d.kind r false) xs) (taken_names xs ++ ((d.name, a_memory (record { first = length es; words = n })) ∷ []))
      (λ j. absurd (search (rules, i, j))) (λ x m f o. absurd (let z = none_inner x d i in search (rules, sym z ∙ o))) (λ x f. none_inner x d i))

words_inner : (kind : DeclKind) (r : Option Range) (n : ℕ) → words_of kind r ≡ Some n → is_inner (direction_of kind) ≡ true
words_inner k.Reg r n e = refl
words_inner k.Wire r n e = refl
words_inner k.Input r n e = absurd (search (rules, e))
words_inner k.Output r n e = absurd (search (rules, e))
words_inner k.OutputReg r n e = absurd (search (rules, e))

count_inner : (look : Look) (x : DeclTree) (o : Option Bounds) (n : ℕ) → (array_read look x o).count ≡ Some n → is_inner (direction_of x.kind) ≡ true
count_inner look x None n e = absurd (search (rules, e))
count_inner look x (Some b) n e = words_inner x.kind (bounds_read look b).range n e

again_inner : (s : Stage) (x : DeclTree) (n : ℕ) → again (look_of s) x ≡ Some n → is_inner (direction_of x.kind) ≡ true
again_inner s x n = go (is_inner (direction_of x.kind)) (is_none x.array)
  where
    go : (a b : Bool) → cond (a && b) (if_open x.kind s.design.entries (meaning (look_of s) x.name)) None ≡ Some n → a ≡ true
    go true b e = refl
    go false b e = absurd (search (rules, e))

declaration_knows : (d : Design) (ds : List DeclTree) (s : Stage) (q : Site × DeclTree) (t : Stage) → declaration s q ≡ good t → IsDeclaring d s → KnowsInputs ds s → KnowsInputs (ds ++ q.1 ∷ []) t
declaration_knows d ds s q t e i h =
    let look = look_of s in let rules_of = declaration_rules look q.0 q.1 in let r = range_read look q.1.name q.1.range in
    let g = good_then (judged declaration_order q.0.place rules_of (tt {0})) _ t e in
    let none = (judged_is declaration_order q.0.place rules_of (tt {0}) g.0 g.1).0 in
    let a = (none_of_both _ (array_read look q.1 q.1.array).broken none).0 in
    let b = (none_of_both _ (range_rule look q.1 r.range (again look q.1)) a).0 in
    let c = (none_of_both _ r.broken b).0 in
    let f = (none_of_both (breaks_if (is_none (again look q.1) && is_declared s.names q.1.name) 304 q.1.name) _ c).0 in
    go (again look q.1) (array_read look q.1 q.1.array).count (again_inner s q.1) (λ n k. (again_open s q.1 n k).1) (count_inner look q.1 q.1.array)
    (not_broken (is_none (again look q.1) && is_declared s.names q.1.name) 304 q.1.name f) g.2
  where
    undeclared : (o : Option Meaning) → is_some o ≡ false → o ≡ None
    undeclared None e = refl
    undeclared (Some m) e = absurd (search (rules, e))

    go : (o n : Option ℕ) → ((m : ℕ) → o ≡ Some m → is_inner (direction_of q.1.kind) ≡ true) → ((m : ℕ) → o ≡ Some m → again_at q.1.kind s.design.entries m ≡ true)
        → ((m : ℕ) → n ≡ Some m → is_inner (direction_of q.1.kind) ≡ true) → (is_none o && is_declared s.names q.1.name) ≡ false
        → add_declared s q.0 q.1 (range_read (look_of s) q.1.name q.1.range).range o n ≡ good t → KnowsInputs (ds ++ q.1 ∷ []) t
    go (Some m) n a b c f e = subst (KnowsInputs (ds ++ q.1 ∷ [])) (good_is _ t e) (again_knows ds s h i.names q.1 q.1.kind m (a m refl) (b m refl))
    go None (Some n) a b c f e = memory_knows ds s h i.names q.1 q.0 (range_read (look_of s) q.1.name q.1.range).range n (c n refl) t e
    go None None a b c f e = signal_knows ds s h i.names q.1 q.0 (range_read (look_of s) q.1.name q.1.range).range (undeclared (found_in s.names q.1.name) f) t e

declarations_know : (d : Design) (ds : List DeclTree) (qs : List (Site × DeclTree)) (s t : Stage) → each declaration s qs ≡ good t → IsDeclaring d s → KnowsInputs ds s → KnowsInputs (ds ++ map (λ (q : Site × DeclTree). q.1) qs) t
declarations_know d ds [] s t e i h = subst (λ (u : Stage). KnowsInputs (ds ++ []) u) (good_is s t e) (subst (λ es. KnowsInputs es s) (sym (append-nil ds)) h)
declarations_know d ds (q ∷ qs) s t e i h =
    let g = good_then (declaration s q) (λ u. each declaration u qs) t e in
    subst (λ es. KnowsInputs es t) (append_assoc ds (q.1 ∷ []) (map (λ (q : Site × DeclTree). q.1) qs))
    (declarations_know d (ds ++ q.1 ∷ []) qs g.0 t g.2 (declaration_declares d s q g.0 g.1 i) (declaration_knows d ds s q g.0 g.1 i h))

-- ---- a declared module

-- an input port is no register
abbrev pub KnowsPorts : ModuleTree → Stage → Type 0
KnowsPorts m s = (x : Text) (n : ℕ) → meaning_in s.names x ≡ Some (a_signal n) → port_direction m x ≡ Some inward → reg_at s.design.entries n ≡ false

abbrev all_decls : ModuleTree → List DeclTree
all_decls m = header_decls m ++ map (λ (q : Place × DeclTree). q.1) (item_decls m)

second_of_first : {A B C : Type 0} (f : A → C) (g : A → B) (xs : List A) → map (λ (p : C × B). p.1) (map (λ x. (f x, g x)) xs) ≡ map g xs
second_of_first f g [] = refl
second_of_first f g (x ∷ xs) = ap (λ ys. g x ∷ ys) (second_of_first f g xs)

map_same : {A : Type 0} (xs : List A) → map (λ x. x) xs ≡ xs
map_same [] = refl
map_same (x ∷ xs) = ap (λ ys. x ∷ ys) (map_same xs)

map_both : {A B : Type 0} (f : A → B) (xs ys : List A) → map f (xs ++ ys) ≡ map f xs ++ map f ys
map_both f [] ys = refl
map_both f (x ∷ xs) ys = ap (λ zs. f x ∷ zs) (map_both f xs ys)

sites_are : (prefix : Text) (m : ModuleTree) → map (λ (q : Site × DeclTree). q.1) (sites prefix m) ≡ all_decls m
sites_are prefix m =
    map_both (λ (q : Site × DeclTree). q.1) (map (λ d. (record { prefix = prefix; header = header_of m; in_header = true; place = m.place }, d)) (header_decls m)) _
    ∙ ap₂ (λ xs ys. xs ++ ys) (second_of_first (λ (d : DeclTree). record { prefix = prefix; header = header_of m; in_header = true; place = m.place }) (λ d. d) (header_decls m) ∙ map_same (header_decls m))
    (second_of_first (λ (q : Place × DeclTree). record { prefix = prefix; header = header_of m; in_header = false; place = q.0 }) (λ (q : Place × DeclTree). q.1) (item_decls m))

pub declarations_know_ports : (d : Design) (prefix : Text) (m : ModuleTree) (s t : Stage) → declarations prefix m s ≡ good t → IsDeclaring d s → KnowsPorts m t
declarations_know_ports d prefix m s t e i =
    let g = good_then (header_twice m) _ t e in
    let k = good_then (each declaration s (sites prefix m)) _ t g.2 in
    let n = declarations_know d [] (sites prefix m) s k.0 k.1 i (record { inputs = λ x n m e. absurd (search (rules, e)); others = λ x e. refl }) in
    let all = subst (λ ds. KnowsInputs ds k.0) (sites_are prefix m) n in
    each_keeps (KnowsPorts m) (directed m) still k.0 (header_of m) t k.2 (λ x n a b. (all.inputs x n a b).0)
  where
    still : (s : Stage) (x : Text) (t : Stage) → directed m s x ≡ good t → KnowsPorts m s → KnowsPorts m t
    still s x t e h = let g = good_then (refused_if (not (has_direction (look_of s) x)) 306 (Some m.place) x) (λ u. good s) t e in subst (KnowsPorts m) (good_is s t g.2) h
