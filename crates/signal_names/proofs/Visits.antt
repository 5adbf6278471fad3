-- Declarations, items and visits keep printed names apart.
use Rattle.std.proofs.Common.{◌≡◌, ℕ, zero, suc, ◌-◌, Bool, true, false, not, ◌&&◌, ◌==◌, cond, List, [], ◌∷◌, ◌++◌, length, map, All, Option, Some, None, refl, sym, ap, subst, ◌∙◌, arith, rules, is_none, bytes_eq, codes, filter, flat_map, find}
use Rattle.std.specs.List.{list_all, list_any}
use Rattle.std.proofs.lemmas.List.Elements.{All-head, All-cons, All-nil, All-tail, All-append, All-map, All-weaker}
use Rattle.cdc_base.specs.declared.fault.Place.{Place}
use Rattle.cdc_base.specs.declared.signal.ResetPin.{ResetPin}
use Rattle.cdc_base.specs.declared.signal.Signal.{Signal}
use Rattle.cdc_base.specs.Words.{is_in}
use Rattle.verilog_ast.specs.declared.DeclKind.{DeclKind}
use Rattle.verilog_ast.specs.declared.DeclKind.TheVariants as k
use Rattle.verilog_ast.specs.declared.GateKind.{GateKind}
use Rattle.verilog_ast.specs.declared.Edge.{Edge}
use Rattle.verilog_ast.specs.declared.Event.{Event}
use Rattle.verilog_reading.specs.ExprTree.{ExprTree, TargetTree, whole}
use Rattle.verilog_reading.specs.StmtTree.{StmtTree}
use Rattle.verilog_reading.specs.SourceTree.{Bounds, ParamTree, DeclTree, ConnsTree, ItemTree, BodyTree, param, decl, assign, gate, instance, always, initial, ModuleTree}
use Rattle.flat_meaning.specs.Flat.{Expr, Target}
use Rattle.flat_meaning.specs.Design.{Flat}
use Rattle.flat_unfolding.specs.Outcome.{Text, Broken, Outcome, good, each, refused_if, Order, by_number, judged, breaks_if}
use Rattle.flat_unfolding.specs.Names.{Range, Meaning, a_signal, a_memory, no_value, meaning, Names, is_declared, meaning_in, Direction, inward, Entry, Look, direction_at, printed_part}
use Rattle.flat_unfolding.specs.Expressions.{Term, read}
use Rattle.flat_unfolding.specs.Memories.{words_of, word_names, taken}
use Rattle.flat_unfolding.specs.Design.{Design, no_design, Stage, look_of, with_design, change_entry}
use Rattle.flat_unfolding.specs.Starts.{start_of}
use Rattle.flat_unfolding.specs.Wires.{assign_item, gate_item}
use Rattle.flat_unfolding.specs.Processes.{is_of_wires, edges_of, wires_process, clocked_process, always_item}
use Rattle.flat_unfolding.specs.Parameters.{bounds_read, range_read, Overrides, parameter_order, parameter, params_of, parameters}
use Rattle.flat_unfolding.specs.Declarations.{is_plain_port, declaration_order, Site, taken_names, again, range_rule, array_read, count_rules, declaration_rules, entry, declared_again, add_declared, declaration, header_of, header_decls, item_decls, decl_in, sites, header_twice, has_direction, directed, declarations}
use Rattle.flat_unfolding.specs.Instances.{override_rules, overrides_of, Link, into, out_of, connection_rules, links_of, resolving_to, into_port, out_of_port, connect_one, connect_all, connected, leaning_of, is_short}
use Rattle.flat_unfolding.specs.Signals.{from_outside, with_constants, with_free, signals_from}
use Rattle.flat_unfolding.specs.Unfolding.{module_named, value_item, declared_value, Visit, instance_of, instance_item, item_of, item, header_values, declared_reset, with_resets, visit, directed_port, top_port, top_ports, modules_differ, finished, from_top}
use Rattle.flat_unfolding.proofs.Steps.{some_is, good_is, good_then, judged_is, not_refused, not_broken, none_of_both, each_keeps}
use Rattle.flat_unfolding.proofs.Entries.{from_keeps}
use Rattle.flat_unfolding.proofs.Free.{free_keeps}
use Rattle.flat_unfolding.proofs.Visits.{accepted}
use Rattle.signal_names.specs.Paths.{is_visible, prefix_text, path_text, IsPrinted}
use Rattle.signal_names.specs.Laws.{IsNamedVisibly, IsModuleVisible, IsSourceVisible, AreDifferent, names_in, AreNames, NamesDiffer}
use Rattle.signal_names.proofs.Cuts.{in_a_row}
use Rattle.signal_names.proofs.Named.{still_declared, newly_declared, one_declared, taken_declared, first_of, IsBelow, IsNew, printed_of, IsNamed, IsQuiet, quiet_named, added_named, adds_name, text_of, IsFresh, adds_signals}
use Rattle.signal_names.proofs.Words.{words_visible, words_differ}

-- ---- steps that are quiet

quiet_itself : (s : Stage) → IsQuiet s s
quiet_itself s = record { names = refl; printed = refl }

judged_quiet : (order : Order) (p : Place) (bs : List Broken) (s a t : Stage) → judged order p bs a ≡ good t → IsQuiet s a → IsQuiet s t
judged_quiet order p bs s a t e h = subst (IsQuiet s) (judged_is order p bs a t e).1 h

assign_quiet : (s : Stage) (p : Place) (x : TargetTree) (v : ExprTree) (t : Stage) → assign_item s p x v ≡ good t → IsQuiet s t
assign_quiet s p x v t e = judged_quiet by_number p _ s _ t e (record { names = refl; printed = refl })

gate_quiet : (s : Stage) (p : Place) (kind : GateKind) (es : List ExprTree) (t : Stage) → gate_item s p kind es ≡ good t → IsQuiet s t
gate_quiet s p kind [] t e = judged_quiet by_number p _ s _ t e (quiet_itself s)
gate_quiet s p kind (x ∷ es) t e = judged_quiet by_number p _ s _ t e (record { names = refl; printed = refl })

wires_quiet : (s : Stage) (p : Place) (event : Event) (body : StmtTree) (t : Stage) → wires_process s p event body ≡ good t → IsQuiet s t
wires_quiet s p event body t e = judged_quiet by_number p _ s _ t e (record { names = refl; printed = refl })

clocked_quiet : (s : Stage) (p : Place) (edges : List Edge) (body : StmtTree) (t : Stage) → clocked_process s p edges body ≡ good t → IsQuiet s t
clocked_quiet s p edges body t e = judged_quiet by_number p _ s _ t e (record { names = refl; printed = refl })

always_quiet : (s : Stage) (p : Place) (event : Event) (body : StmtTree) (t : Stage) → always_item s p event body ≡ good t → IsQuiet s t
always_quiet s p event body t e = go (is_of_wires event) e
  where
    go : (b : Bool) → cond b (wires_process s p event body) (clocked_process s p (edges_of event) body) ≡ good t → IsQuiet s t
    go true h = wires_quiet s p event body t h
    go false h = clocked_quiet s p (edges_of event) body t h

start_quiet : (s : Stage) (p : Place) (x : Text) (m : Option Meaning) (v : Term) (t : Stage) → start_of s p x m v ≡ good t → IsQuiet s t
start_quiet s p x (Some (a_signal n)) v t e = judged_quiet by_number p _ s _ t e (record { names = refl; printed = refl })
start_quiet s p x m v t e = judged_quiet by_number p _ s _ t e (quiet_itself s)

value_quiet : (s : Stage) (p : Place) (x : Text) (o : Option ExprTree) (kind : DeclKind) (t : Stage) → value_item s p x o kind ≡ good t → IsQuiet s t
value_quiet s p x None kind t e = subst (IsQuiet s) (good_is s t e) (quiet_itself s)
value_quiet s p x (Some v) k.Wire t e = assign_quiet s p (whole x) v t e
value_quiet s p x (Some v) kind t e = start_quiet s p x (meaning (look_of s) x) (read (look_of s) v) t e

-- ---- ports

change_printed : (f : Entry → Entry) → ((e : Entry) → (f e).printed ≡ e.printed) → (t : ℕ) (es : List Entry) → printed_of (change_entry f t es) ≡ printed_of es
change_printed f h t [] = refl
change_printed f h zero (e ∷ es) = ap (λ x. x ∷ printed_of es) (h e)
change_printed f h (suc t) (e ∷ es) = ap (λ xs. e.printed ∷ xs) (change_printed f h t es)

into_quiet : (d : Design) (v : Expr) (r : Option ResetPin) (m : Option Meaning) → printed_of (into_port d v r m).entries ≡ printed_of d.entries
into_quiet d v r (Some (a_signal s)) = change_printed (resolving_to r) (λ a. refl) s d.entries
into_quiet d v r m = refl

out_quiet : (d : Design) (g : Target) (m : Option Meaning) → printed_of (out_of_port d g m).entries ≡ printed_of d.entries
out_quiet d g (Some (a_signal s)) = refl
out_quiet d g m = refl

one_quiet : (names : Names) (d : Design) (l : Link) → printed_of (connect_one names d l).entries ≡ printed_of d.entries
one_quiet names d (into x v r) = into_quiet d v r (meaning_in names x)
one_quiet names d (out_of x g) = out_quiet d g (meaning_in names x)

all_quiet : (names : Names) (d : Design) (ls : List Link) → printed_of (connect_all names d ls).entries ≡ printed_of d.entries
all_quiet names d [] = refl
all_quiet names d (l ∷ ls) = all_quiet names (connect_one names d l) ls ∙ one_quiet names d l

connected_quiet : (ls : List Link) (s : Stage) → IsQuiet s (connected ls s)
connected_quiet ls s = record { names = refl; printed = all_quiet s.names s.design ls }

side_quiet : (d : Design) (s : ℕ) (side : Direction) → printed_of (directed_port d s side).entries ≡ printed_of d.entries
side_quiet d s inward = change_printed from_outside (λ a. refl) s d.entries
side_quiet d s side = refl

port_quiet : (d : Design) (m : Option Meaning) → printed_of (top_port d m).entries ≡ printed_of d.entries
port_quiet d (Some (a_signal s)) = side_quiet d s (direction_at d.entries s)
port_quiet d m = refl

top_quiet : (xs : List Text) (s : Stage) → IsQuiet s (top_ports xs s)
top_quiet [] s = quiet_itself s
top_quiet (x ∷ xs) s =
    let t = with_design s (top_port s.design (meaning_in s.names x)) in let h = top_quiet xs t in
    record { names = h.names; printed = h.printed ∙ port_quiet s.design (meaning_in s.names x) }

resets_quiet : (n : ℕ) (s : Stage) → IsQuiet s (with_resets n s)
resets_quiet n s =
    let d = s.design in let f = declared_reset d.pins in
    record {
      names = refl;
      printed = from_keeps (λ es. printed_of es ≡ printed_of d.entries) f (λ i es h. change_printed f (λ a. refl) i es ∙ h) n (length d.entries - n) d.entries refl;
    }

-- ---- declarations

-- the words of a memory are fresh where none of their names is taken
taken_fresh : (names : Names) (xs : List Text) → taken names xs ≡ [] → All (λ x. is_declared names x ≡ false) xs
taken_fresh names [] h = All-nil (λ x. is_declared names x ≡ false)
taken_fresh names (x ∷ xs) h = let p = none_of_both (breaks_if (is_declared names x) 304 x) (taken names xs) h in
    All-cons (λ x. is_declared names x ≡ false) x xs (not_broken (is_declared names x) 304 x p.0) (taken_fresh names xs p.1)

all_fresh : (prefix : Text) (before after : Names) (xs : List Text) → All (λ x. is_visible x ≡ true) xs → All (λ x. is_declared before x ≡ false) xs → All (λ x. is_declared after x ≡ true) xs
    → All (IsFresh prefix before after) xs
all_fresh prefix before after [] v f d = All-nil (IsFresh prefix before after)
all_fresh prefix before after (x ∷ xs) v f d =
    All-cons (IsFresh prefix before after) x xs
    (record { visible = All-head (λ x. is_visible x ≡ true) x xs v; fresh = All-head (λ x. is_declared before x ≡ false) x xs f; declared = All-head (λ x. is_declared after x ≡ true) x xs d })
    (all_fresh prefix before after xs (All-tail (λ x. is_visible x ≡ true) x xs v) (All-tail (λ x. is_declared before x ≡ false) x xs f) (All-tail (λ x. is_declared after x ≡ true) x xs d))

printed_words : (at : Site) (kind : DeclKind) (r : Option Range) (open_ : Bool) (xs : List Text) → printed_of (map (entry at kind r open_) xs) ≡ map (text_of at.prefix) xs
printed_words at kind r open_ [] = refl
printed_words at kind r open_ (x ∷ xs) = ap (λ ks. text_of at.prefix x ∷ ks) (printed_words at kind r open_ xs)

count_of : (n : ℕ) (x : Text) (m : ℕ) (f : Text → Entry) → length (map f (word_names x m n)) ≡ n
count_of zero x m f = refl
count_of (suc n) x m f = ap suc (count_of n x (suc m) f)

not_both : (a b : Bool) → (a && b) ≡ false → a ≡ true → b ≡ false
not_both true b e f = e
not_both false b e f = absurd (search (rules, f))

module _ (before : List Text) (s : Stage) (at : Site) (d : DeclTree) (v : is_visible d.name ≡ true) where
  signal_named : (r : Option Range) (t : Stage) → is_declared s.names d.name ≡ false → add_declared s at d r None None ≡ good t → IsNamed at.prefix before s → IsNamed at.prefix before t
  signal_named r t f e h =
      let sig = a_signal (length s.design.entries) in let more : Names = (d.name, sig) ∷ [] in
      added_named at.prefix before s t (adds_signals at.prefix s (entry at d.kind r (is_plain_port d.kind && not at.in_header) d.name ∷ []) more (d.name ∷ []) t e refl (λ l. (
        all_fresh at.prefix s.names (s.names ++ more) (d.name ∷ [])
            (All-cons (λ x. is_visible x ≡ true) d.name [] v (All-nil (λ x. is_visible x ≡ true)))
            (All-cons (λ x. is_declared s.names x ≡ false) d.name [] f (All-nil (λ x. is_declared s.names x ≡ false)))
            (All-weaker (λ x. is_declared more x ≡ true) (λ x. is_declared (s.names ++ more) x ≡ true) (λ x i. newly_declared s.names more x i) (d.name ∷ []) (All-cons (λ x. is_declared more x ≡ true) d.name [] (one_declared d.name sig) (All-nil (λ x. is_declared more x ≡ true)))),
        (tt, tt),
      ))) h

  memory_named : (r : Option Range) (n : ℕ) (t : Stage) → taken s.names (word_names d.name 0 n) ≡ [] → add_declared s at d r None (Some n) ≡ good t → IsNamed at.prefix before s → IsNamed at.prefix before t
  memory_named r n t f e h =
      let words = word_names d.name 0 n in
      let first = taken_names words in
      let last : Names = (d.name, a_memory (record { first = length s.design.entries; words = n })) ∷ [] in
      let c = count_of n d.name 0 (entry at d.kind r false) in
      added_named at.prefix before s t (adds_signals at.prefix s (map (entry at d.kind r false) words) (first ++ last) words t e (printed_words at d.kind r false words) (λ l. (
        all_fresh at.prefix s.names (s.names ++ (first ++ last)) words
            (words_visible d.name 0 n v (omega (arith, c, l)))
            (taken_fresh s.names words f)
            (All-weaker (λ x. is_declared first x ≡ true) (λ x. is_declared (s.names ++ (first ++ last)) x ≡ true)
            (λ x i. newly_declared s.names (first ++ last) x (still_declared first last x i)) words (taken_declared words)),
        words_differ d.name 0 n (omega (arith, c, l)),
      ))) h

  again_named : (r : Option Range) (sig : ℕ) (words : Option ℕ) (t : Stage) → add_declared s at d r (Some sig) words ≡ good t → IsNamed at.prefix before s → IsNamed at.prefix before t
  again_named r sig words t e h =
      quiet_named at.prefix before s t (subst (IsQuiet s) (good_is _ t e) (record { names = refl; printed = change_printed (declared_again d.kind) (λ a. refl) sig s.design.entries })) h

-- the words of an accepted array
words_untaken : (look : Look) (d : DeclTree) (o : Option ℕ) (n : ℕ) → o ≡ Some n → count_rules look d o ≡ [] → taken look.names (word_names d.name 0 n) ≡ []
words_untaken look d None n e h = absurd (search (rules, e))
words_untaken look d (Some m) n e h = subst (λ z. taken look.names (word_names d.name 0 z) ≡ []) (some_is m n e) h

array_untaken : (look : Look) (d : DeclTree) (o : Option Bounds) (n : ℕ) → (array_read look d o).count ≡ Some n → (array_read look d o).broken ≡ [] → taken look.names (word_names d.name 0 n) ≡ []
array_untaken look d None n e h = absurd (search (rules, e))
array_untaken look d (Some b) n e h =
    words_untaken look d (words_of d.kind (bounds_read look b).range) n e
    (none_of_both (filter (λ (x : Broken). x.number == 305) (bounds_read look b).broken) (count_rules look d (words_of d.kind (bounds_read look b).range)) h).1

declaration_named : (before : List Text) (s : Stage) (at : Site) (d : DeclTree) (t : Stage) → is_visible d.name ≡ true → declaration s (at, d) ≡ good t → IsNamed at.prefix before s → IsNamed at.prefix before t
declaration_named before s at d t v e h =
    let look = look_of s in let rules_of = declaration_rules look at d in
    let g = good_then (judged declaration_order at.place rules_of (tt {0})) _ t e in
    let none = (judged_is declaration_order at.place rules_of (tt {0}) g.0 g.1).0 in
    let a = none_of_both _ (array_read look d d.array).broken none in
    let b = none_of_both _ (range_rule look d (range_read look d.name d.range).range (again look d)) a.0 in
    let c = none_of_both _ (range_read look d.name d.range).broken b.0 in
    let f = (none_of_both (breaks_if (is_none (again look d) && is_declared s.names d.name) 304 d.name) _ c.0).0 in
    go (again look d) ((array_read look d d.array).count) (not_broken (is_none (again look d) && is_declared s.names d.name) 304 d.name f) (λ n i. array_untaken look d d.array n i a.1) g.2
  where
    go : (o w : Option ℕ) → (is_none o && is_declared s.names d.name) ≡ false → ((n : ℕ) → w ≡ Some n → taken s.names (word_names d.name 0 n) ≡ [])
        → add_declared s at d (range_read (look_of s) d.name d.range).range o w ≡ good t → IsNamed at.prefix before t
    go (Some sig) w f k i = again_named before s at d v (range_read (look_of s) d.name d.range).range sig w t i h
    go None (Some n) f k i = memory_named before s at d v (range_read (look_of s) d.name d.range).range n t (k n refl) i h
    go None None f k i = signal_named before s at d v (range_read (look_of s) d.name d.range).range t f i h

-- ---- steps over what is visible

all_steps : {A S : Type 0} (Q : A → Type 0) (P : S → Type 0) (f : S → A → Outcome S) → ((s : S) (a : A) (t : S) → Q a → f s a ≡ good t → P s → P t) → (s : S) (xs : List A) (t : S) → All Q xs → each f s xs ≡ good t → P s → P t
all_steps Q P f h s [] t q e p = subst P (good_is s t e) p
all_steps Q P f h s (x ∷ xs) t q e p = let g = good_then (f s x) (λ u. each f u xs) t e in all_steps Q P f h g.0 xs t (All-tail Q x xs q) g.2 (h s x g.0 (All-head Q x xs q) g.1 p)

-- a declaration of visible bytes, at a site behind this prefix
abbrev IsSite : Text → Site × DeclTree → Type 0
IsSite prefix q = (q.0.prefix ≡ prefix) × (is_visible q.1.name ≡ true)

abbrev IsItemDecl : Place × DeclTree → Type 0
IsItemDecl q = is_visible q.1.name ≡ true

decl_visible : (i : ItemTree) → IsNamedVisibly i.body → All IsItemDecl (decl_in i)
decl_visible i = go i.body
  where
    go : (b : BodyTree) → IsNamedVisibly b → All IsItemDecl (decl_in (record { place = i.place; body = b }))
    go (param q) h = All-nil IsItemDecl
    go (decl d) h = All-cons IsItemDecl (i.place, d) [] h (All-nil IsItemDecl)
    go (assign x v) h = All-nil IsItemDecl
    go (gate kind es) h = All-nil IsItemDecl
    go (instance child params x ports) h = All-nil IsItemDecl
    go (always event body) h = All-nil IsItemDecl
    go (initial body) h = All-nil IsItemDecl

decls_visible : (is : List ItemTree) → All (λ (i : ItemTree). IsNamedVisibly i.body) is → All IsItemDecl (flat_map decl_in is)
decls_visible [] h = All-nil IsItemDecl
decls_visible (i ∷ is) h = All-append IsItemDecl (decl_in i) (flat_map decl_in is)
    (decl_visible i (All-head (λ (i : ItemTree). IsNamedVisibly i.body) i is h)) (decls_visible is (All-tail (λ (i : ItemTree). IsNamedVisibly i.body) i is h))

module _ (prefix : Text) (m : ModuleTree) (h : IsModuleVisible m) where
  abbrev header_site : DeclTree → Site × DeclTree
  header_site d = (record { prefix = prefix; header = header_of m; in_header = true; place = m.place }, d)

  abbrev item_site : Place × DeclTree → Site × DeclTree
  item_site q = (record { prefix = prefix; header = header_of m; in_header = false; place = q.0 }, q.1)

  sites_visible : All (IsSite prefix) (sites prefix m)
  sites_visible = All-append (IsSite prefix) (map header_site (header_decls m)) (map item_site (item_decls m))
      (All-map (IsSite prefix) header_site (header_decls m)
      (All-weaker (λ (d : DeclTree). is_visible d.name ≡ true) (λ (d : DeclTree). IsSite prefix (header_site d)) (λ d v. (refl, v)) (header_decls m) h.header))
      (All-map (IsSite prefix) item_site (item_decls m)
      (All-weaker IsItemDecl (λ (q : Place × DeclTree). IsSite prefix (item_site q)) (λ q v. (refl, v)) (item_decls m) (decls_visible m.items h.items)))

module _ (prefix : Text) (before : List Text) where
  site_named : (s : Stage) (q : Site × DeclTree) (t : Stage) → IsSite prefix q → declaration s q ≡ good t → IsNamed prefix before s → IsNamed prefix before t
  site_named s q t i e h = subst (λ p. IsNamed p before t) i.0 (declaration_named before s q.0 q.1 t i.1 e (subst (λ p. IsNamed p before s) (sym i.0) h))

  directed_named : (m : ModuleTree) (s : Stage) (x : Text) (t : Stage) → directed m s x ≡ good t → IsNamed prefix before s → IsNamed prefix before t
  directed_named m s x t e h = let g = good_then (refused_if (not (has_direction (look_of s) x)) 306 (Some m.place) x) (λ u. good s) t e in subst (IsNamed prefix before) (good_is s t g.2) h

  declarations_named : (m : ModuleTree) → IsModuleVisible m → (s t : Stage) → declarations prefix m s ≡ good t → IsNamed prefix before s → IsNamed prefix before t
  declarations_named m v s t e h =
      let g = good_then (header_twice m) _ t e in
      let k = good_then (each declaration s (sites prefix m)) _ t g.2 in
      each_keeps (IsNamed prefix before) (directed m) (directed_named m) k.0 (header_of m) t k.2
      (all_steps (IsSite prefix) (IsNamed prefix before) declaration site_named s (sites prefix m) k.0 (sites_visible prefix m v) k.1 h)

  parameter_named : (overrides : Overrides) (s : Stage) (q : Place × ParamTree) (t : Stage) → parameter overrides s q ≡ good t → IsNamed prefix before s → IsNamed prefix before t
  parameter_named overrides s q t e h = subst (IsNamed prefix before) (judged_is parameter_order q.0 _ _ t e).1 (added_named prefix before s _ (adds_name prefix s _) h)

-- ---- visits

-- what a visit adds: printed names behind its prefix, which differ
pub record Grows (prefix : Text) (d e : Design) : Type 0 where
  pub more : List Text
  pub printed : printed_of e.entries ≡ printed_of d.entries ++ more
  pub names : All (IsPrinted prefix) more
  pub differ : AreDifferent more

abbrev KeepsNames : Visit → Type 0
KeepsNames v = (prefix : Text) (visiting : List Text) (m : ModuleTree) (overrides : Overrides) (ports : Stage → Stage) (d : Design) (e : Stage) → IsModuleVisible m → ((s : Stage) → IsQuiet s (ports s))
    → v prefix visiting m overrides ports d ≡ good e → Grows prefix d e.design

holds : (a b : Bool) → a ≡ true → b ≡ true → (a && b) ≡ true
holds true b e f = f
holds false b e f = absurd (search (rules, e))

-- a name below an instance is one below its module
abbrev below_instance : (prefix u text : Text) → is_visible u ≡ true → (i : IsPrinted (prefix ++ printed_part u ++ codes ".") text) → IsPrinted prefix text
below_instance prefix u text v i = record {
  path = u ∷ i.path;
  own = i.own;
  visible_path = holds (is_visible u) (list_all is_visible i.path) v i.visible_path;
  visible = i.visible;
  is = let dot = printed_part u ++ codes "." in
      i.is ∙ ap (λ t. t ++ path_text i.path i.own) (in_a_row prefix (printed_part u) (codes ".")) ∙ in_a_row prefix dot (path_text i.path i.own)
      ∙ ap (λ t. prefix ++ t) (sym (in_a_row dot (prefix_text i.path) (printed_part i.own)));
}

-- so is each, and the instance is the first on its way
all_below : (prefix u : Text) (before after : Names) → is_visible u ≡ true → is_declared before u ≡ false → is_declared after u ≡ true
    → (xs : List Text) → All (IsPrinted (prefix ++ printed_part u ++ codes ".")) xs → All (IsNew prefix before after) xs
all_below prefix u before after v f d xs h =
    All-weaker (IsPrinted (prefix ++ printed_part u ++ codes ".")) (IsNew prefix before after) (λ x i. below x i) xs h
  where
    below : (x : Text) → IsPrinted (prefix ++ printed_part u ++ codes ".") x → IsNew prefix before after x
    below x i = go (below_instance prefix u x v i) refl
      where
        go : (p : IsPrinted prefix x) → p.path ≡ u ∷ i.path → IsNew prefix before after x
        go p e = record { printed = p; fresh = ap (λ z. is_declared before (first_of z p.own)) e ∙ f; declared = ap (λ z. is_declared after (first_of z p.own)) e ∙ d }

module _ (modules : List ModuleTree) (visible : IsSourceVisible modules) where
  found_visible : (x : Text) (ms : List ModuleTree) → IsSourceVisible ms → (m : ModuleTree) → module_named x ms ≡ Some m → IsModuleVisible m
  found_visible x [] h m e = absurd (search (rules, e))
  found_visible x (n ∷ ms) h m e = go (bytes_eq n.name x) e (found_visible x ms (All-tail IsModuleVisible n ms h) m)
    where
      go : (b : Bool) → cond b (Some n) (find (λ (m : ModuleTree). bytes_eq m.name x) ms) ≡ Some m → (find (λ (m : ModuleTree). bytes_eq m.name x) ms ≡ Some m → IsModuleVisible m) → IsModuleVisible m
      go true e k = subst IsModuleVisible (some_is n m e) (All-head IsModuleVisible n ms h)
      go false e k = k e

  module _ (visiting : List Text) (prefix : Text) (v : Visit) (keeps : KeepsNames v) (before : List Text) where
    instance_named : (s : Stage) (p : Place) (m : ModuleTree) (params : ConnsTree) (x : Text) (ports : ConnsTree) (t : Stage) → IsModuleVisible m → is_visible x ≡ true
        → instance_of modules visiting prefix v s p m params x ports ≡ good t → IsNamed prefix before s → IsNamed prefix before t
    instance_named s p m params x ports t w u e h =
        let look = look_of s in let links = links_of look m ports in
        let a = good_then (refused_if (is_in visiting m.name) 303 (Some p) m.name) _ t e in
        let b = good_then (refused_if (is_declared s.names x) 304 (Some p) x) _ t a.2 in
        let f = not_refused (is_declared s.names x) 304 (Some p) x b.0 b.1 in
        let c = good_then (judged by_number p (override_rules look m params ++ connection_rules look m ports) (tt {0})) _ t b.2 in
        let d = good_then (v (prefix ++ printed_part x ++ codes ".") (m.name ∷ visiting) m (overrides_of look m params) (connected links) s.design) _ t c.2 in
        let l = good_then (refused_if (list_any (is_short d.0) (leaning_of look m params ports)) 306 (Some p) m.name) _ t d.2 in
        let g = keeps _ _ m _ (connected links) s.design d.0 w (connected_quiet links) d.1 in
        let names = s.names ++ ((x, no_value) ∷ []) in
        subst (IsNamed prefix before) (good_is _ t l.2) (added_named prefix before s (record { names = names; design = d.0.design }) (record {
          more = g.more;
          printed = g.printed;
          news = all_below prefix x s.names names u f (newly_declared s.names ((x, no_value) ∷ []) x (one_declared x no_value)) g.more g.names;
          differ = g.differ;
          kept = λ y k. still_declared s.names ((x, no_value) ∷ []) y k;
        }) h)

    item_named : (s : Stage) (p : Place) (body : BodyTree) (t : Stage) → IsNamedVisibly body → item_of modules visiting prefix v s p body ≡ good t → IsNamed prefix before s → IsNamed prefix before t
    item_named s p (param q) t w e h = subst (IsNamed prefix before) (good_is s t e) h
    item_named s p (decl d) t w e h = quiet_named prefix before s t (value_quiet s p d.name d.init d.kind t e) h
    item_named s p (assign x r) t w e h = quiet_named prefix before s t (assign_quiet s p x r t e) h
    item_named s p (gate kind es) t w e h = quiet_named prefix before s t (gate_quiet s p kind es t e) h
    item_named s p (instance child params x ports) t w e h = go (module_named child modules) (found_visible child modules visible) e
      where
        go : (o : Option ModuleTree) → ((m : ModuleTree) → o ≡ Some m → IsModuleVisible m) → instance_item modules visiting prefix v s p o child params x ports ≡ good t → IsNamed prefix before t
        go None k e = absurd (search (rules, e))
        go (Some m) k e = instance_named s p m params x ports t (k m refl) w e h
    item_named s p (always event body) t w e h = quiet_named prefix before s t (always_quiet s p event body t e) h
    item_named s p (initial body) t w e h = quiet_named prefix before s t (judged_quiet by_number p _ s _ t e (record { names = refl; printed = refl })) h

  visit_named : (n : ℕ) → KeepsNames (visit modules n)
  visit_named zero prefix visiting m overrides ports d e w q k = absurd (search (rules, k))
  visit_named (suc n) prefix visiting m overrides ports d e w q k =
      let before = printed_of d.entries in
      let first : Stage = record { names = []; design = d } in
      let a = good_then (parameters overrides m first) _ e k in
      let b = good_then (declarations prefix m a.0) _ e a.2 in
      let r = with_resets (length d.entries) b.0 in
      let c = good_then (header_values m (ports r)) _ e b.2 in
      let start : IsNamed prefix before first = record { mine = []; behind = nothing before; below = All-nil (IsBelow prefix []); differ = tt } in
      let fa = each_keeps (IsNamed prefix before) (parameter overrides) (parameter_named prefix before overrides) first (params_of m) a.0 a.1 start in
      let fb = declarations_named prefix before m w a.0 b.0 b.1 fa in
      let fr = quiet_named prefix before b.0 r (resets_quiet (length d.entries) b.0) fb in
      let fp = quiet_named prefix before r (ports r) (q r) fr in
      let fc = each_keeps (IsNamed prefix before) (λ s (x : DeclTree). declared_value s m.place x) (λ s x t r h. quiet_named prefix before s t (value_quiet s m.place x.name x.init x.kind t r) h)
      (ports r) (header_decls m) c.0 c.1 fp in
      let fi = all_steps (λ (x : ItemTree). IsNamedVisibly x.body) (IsNamed prefix before) (item modules visiting prefix (visit modules n))
      (λ s x t r g h. item_named visiting prefix (visit modules n) (visit_named n) before s x.place x.body t r g h) c.0 m.items e w.items c.2 fc in
      record {
        more = fi.mine;
        printed = fi.behind;
        names = All-weaker (IsBelow prefix e.names) (IsPrinted prefix) (λ x g. g.printed) fi.mine fi.below;
        differ = fi.differ;
      }
    where
      nothing : (ks : List Text) → ks ≡ ks ++ []
      nothing [] = refl
      nothing (k ∷ ks) = ap (λ ls. k ∷ ls) (nothing ks)

  -- ---- the whole design

  signal_names : (d : Design) (n : ℕ) (es : List Entry) → map (λ (s : Signal). s.name) (signals_from d n es) ≡ printed_of es
  signal_names d n [] = refl
  signal_names d n (e ∷ es) = ap (λ ks. e.printed ∷ ks) (signal_names d (suc n) es)

  -- free signals keep their names
  free_printed : (named : List Text) (d : Design) → printed_of (with_free named d).entries ≡ printed_of d.entries
  free_printed named d = free_keeps (λ es. printed_of es ≡ printed_of d.entries) (λ n es e. change_printed from_outside (λ a. refl) n es ∙ e) named d refl

  finished_named : (resets : List ResetPin) (named : List Text) (d : Design) (f : Flat) → finished named d ≡ good f
      → Grows [] (no_design resets) d → AreNames (names_in f)
  finished_named resets named d f e h =
      let c = with_free named d in
      subst (λ x. AreNames (names_in x)) (accepted named d f e).2
      (subst AreNames (sym (signal_names (with_constants c) 0 c.entries ∙ free_printed named d ∙ h.printed)) (record { printed = h.names; differ = h.differ }))

  top_named : (resets : List ResetPin) (named : List Text) (top : Text) (o : Option ModuleTree) → ((m : ModuleTree) → o ≡ Some m → IsModuleVisible m)
      → (f : Flat) → from_top modules resets named top o ≡ good f → AreNames (names_in f)
  top_named resets named top None w f e = absurd (search (rules, e))
  top_named resets named top (Some m) w f e =
      let g = good_then (visit modules (length modules) [] (m.name ∷ []) m [] (top_ports (header_of m)) (no_design resets)) (λ (s : Stage). finished named s.design) f e in
      finished_named resets named g.0.design f g.2 (visit_named (length modules) [] (m.name ∷ []) m [] (top_ports (header_of m)) (no_design resets) g.0 (w m refl) (top_quiet (header_of m)) g.1)

pub names_differ : NamesDiffer
names_differ modules visible top resets named f e =
    let g = good_then (modules_differ modules) (λ u. from_top modules resets named top (module_named top modules)) f e in
    top_named modules visible resets named top (module_named top modules) (found_visible modules visible top modules visible) f g.2
