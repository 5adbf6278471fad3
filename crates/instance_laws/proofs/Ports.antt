-- What an instance connects and overrides, where it stands inside an instance itself; and what the links of an instance wire.
use Rattle.std.proofs.Common.{◌≡◌, ℕ, zero, suc, ◌+◌, Bool, false, cond, nat_lt, List, [], ◌∷◌, ◌++◌, length, map, Option, Some, None, refl, sym, ap, ap₂, ◌∙◌, append_assoc, append-nil, rules}
use Rattle.std.specs.Prelude.{option_map, filter, filter_map, flat_map}
use Rattle.std.specs.Option.{option_or}
use Rattle.std.specs.List.{cons_option}
use Rattle.std.proofs.lemmas.List.Elements.{All-cons, All-head, All-nil, All-tail}
use Rattle.cdc_base.specs.declared.signal.ResetPin.{ResetPin}
use Rattle.verilog_reading.specs.ExprTree.{ExprTree, number, name, index, part, unary, binary, choice, join, repeat, paren}
use Rattle.verilog_reading.specs.SourceTree.{ConnsTree, ModuleTree}
use Rattle.flat_meaning.specs.Flat.{Expr, size, Target, Whole}
use Rattle.flat_unfolding.specs.Outcome.{Text}
use Rattle.flat_unfolding.specs.Names.{Meaning, a_param, a_signal, a_memory, no_value, Names, meaning_in, Direction, inner, inward, outward, Entry, Look, meaning, reset_at, width_at, bits_read}
use Rattle.flat_unfolding.specs.Constants.{is_counted}
use Rattle.flat_unfolding.specs.Signs.{is_signed}
use Rattle.flat_unfolding.specs.Expressions.{Term, as_constant, read}
use Rattle.flat_unfolding.specs.Targets.{Aim}
use Rattle.flat_unfolding.specs.Parameters.{Override, Overrides, overridable}
use Rattle.flat_unfolding.specs.Declarations.{header_of}
use Rattle.flat_unfolding.specs.Instances.{Joint, joints, joint_rules, override_rules, override, overrides_of, port_direction, Link, into, out_of, reset_of, Linked, linked_at, linked_to, linked, connection_rules, links_of, resolving_to, into_port, out_of_port, connect_one, connect_all, connected, Leaning, leaning_joint, takes_input, leaning_of, taken_bits, is_short}
use Rattle.flat_unfolding.specs.Design.{Design, Stage, look_of, with_design, change_entry, assigned}
use Rattle.instance_laws.specs.Moved.{moved_expr, moved_target, moved_assign, moved_names}
use Rattle.instance_laws.specs.Laws.{behind as design_behind, GivesNoReset, HaveNoReset}
use Rattle.instance_laws.proofs.Looks.{moved_if, meaning_moved, is_counted_moved, signed_moved, leans_moved, width_moved, reset_moved}
use Rattle.instance_laws.proofs.Terms.{ap₃, size_moved, moved_term, read_moved, known}
use Rattle.instance_laws.proofs.Aims.{driven_moved}
use Rattle.instance_laws.proofs.Follows.{one_more, over}
use Rattle.instance_laws.proofs.Processes.{unreset_at}
use Rattle.instance_laws.proofs.Declared.{given, change_moved, unreset_change, IsPlain}

module _ (k : ℕ) where
  abbrev pub moved_link : Link → Link
  moved_link (into x e r) = into x (moved_expr k e) r
  moved_link (out_of x t) = out_of x (moved_target k t)

  abbrev moved_linked : Linked → Linked
  moved_linked l = record { link = option_map moved_link l.link; broken = l.broken }

module _ (prefix : Text) (b : Design) (s : Stage) where
  abbrev k : ℕ
  k = length b.entries

  abbrev own : Look
  own = look_of s

  abbrev there : Look
  there = look_of (over prefix b s)

  read_same : (e : ExprTree) → read there e ≡ moved_term k (read own e)
  read_same = read_moved prefix b.entries own

  -- ---- connections

  abbrev reset_meant : Look → Option Meaning → Option ResetPin
  reset_meant l (Some (a_signal n)) = reset_at l.entries n
  reset_meant l m = None

  reset_of_moved : (e : ExprTree) → reset_of there e ≡ reset_of own e
  reset_of_moved (name x) = ap (reset_meant there) (known prefix b.entries own x) ∙ go (meaning own x)
    where
      go : (o : Option Meaning) → reset_meant there (moved_if k o) ≡ reset_meant own o
      go None = refl
      go (Some (a_param p)) = refl
      go (Some (a_signal n)) = reset_moved prefix b.entries s.design.entries n
      go (Some (a_memory m)) = refl
      go (Some no_value) = refl
  reset_of_moved (paren e) = reset_of_moved e
  reset_of_moved (number v w spelt) = refl
  reset_of_moved (index x i) = refl
  reset_of_moved (part x kind l r) = refl
  reset_of_moved (unary op a) = refl
  reset_of_moved (binary op a c) = refl
  reset_of_moved (choice c a e) = refl
  reset_of_moved (join parts) = refl
  reset_of_moved (repeat c parts) = refl

  abbrev linked_in : Text → Term → Option ResetPin → Linked
  linked_in x v r = record { link = Some (into x v.expr r); broken = v.broken }

  abbrev linked_out : Text → Aim → Linked
  linked_out x a = record { link = Some (out_of x a.target); broken = a.broken }

  abbrev read_alone : Term → Linked
  read_alone v = record { link = None; broken = v.broken }

  linked_moved : (m : ModuleTree) (j : Joint) → linked there m j ≡ moved_linked k (linked own m j)
  linked_moved m j = go j.name
    where
      at_port : (x : Text) (o : Option Direction) → linked_at there j.value x o ≡ moved_linked k (linked_at own j.value x o)
      at_port x None = ap read_alone (read_same j.value)
      at_port x (Some inward) = ap₂ (linked_in x) (read_same j.value) (reset_of_moved j.value)
      at_port x (Some inner) = ap (linked_out x) (driven_moved prefix b.entries own j.value)
      at_port x (Some outward) = ap (linked_out x) (driven_moved prefix b.entries own j.value)

      go : (o : Option Text) → linked_to there j.value m o ≡ moved_linked k (linked_to own j.value m o)
      go None = ap read_alone (read_same j.value)
      go (Some x) = at_port x (port_direction m x)

  pub connection_rules_moved : (m : ModuleTree) (given : ConnsTree) → connection_rules there m given ≡ connection_rules own m given
  connection_rules_moved m given = ap (λ bs. joint_rules m.name (header_of m) given ++ bs) (go (joints (header_of m) given))
    where
      go : (js : List Joint) → flat_map (λ (j : Joint). (linked there m j).broken) js ≡ flat_map (λ (j : Joint). (linked own m j).broken) js
      go [] = refl
      go (j ∷ js) = ap₂ (λ (l : Linked) bs. l.broken ++ bs) (linked_moved m j) (go js)

  pub links_moved : (m : ModuleTree) (given : ConnsTree) → links_of there m given ≡ map (moved_link k) (links_of own m given)
  links_moved m given = go (joints (header_of m) given)
    where
      one : (o : Option Link) (ls : List Link) → cons_option (option_map (moved_link k) o) (map (moved_link k) ls) ≡ map (moved_link k) (cons_option o ls)
      one None ls = refl
      one (Some l) ls = refl

      go : (js : List Joint) → filter_map (λ (j : Joint). (linked there m j).link) js ≡ map (moved_link k) (filter_map (λ (j : Joint). (linked own m j).link) js)
      go [] = refl
      go (j ∷ js) = ap₂ (λ (l : Linked) ls. cons_option l.link ls) (linked_moved m j) (go js) ∙ one (linked own m j).link (filter_map (λ (j : Joint). (linked own m j).link) js)

  -- ---- overrides

  pub override_rules_moved : (m : ModuleTree) (params : ConnsTree) → override_rules there m params ≡ override_rules own m params
  override_rules_moved m params = ap (λ bs. joint_rules m.name (overridable m) params ++ bs) (go (joints (overridable m) params))
    where
      go : (js : List Joint) → flat_map (λ (j : Joint). (as_constant (read there j.value)).broken) js ≡ flat_map (λ (j : Joint). (as_constant (read own j.value)).broken) js
      go [] = refl
      go (j ∷ js) = ap₂ (λ (v : Term) bs. (as_constant v).broken ++ bs) (read_same j.value) (go js)

  abbrev overriding : Option Text → Term → Bool → Bool → Option (Text × Override)
  overriding o v c g = option_map (λ (x : Text). (x, record { value = v.expr; is_counted = c; is_signed = g })) o

  pub overrides_moved : (m : ModuleTree) (params : ConnsTree) → overrides_of there m params ≡ given (moved_expr k) (overrides_of own m params)
  overrides_moved m params = go (joints (overridable m) params)
    where
      one : (o : Option Text) (v : Term) (c g : Bool) (rest : Overrides)
          → cons_option (overriding o (moved_term k v) c g) (given (moved_expr k) rest) ≡ given (moved_expr k) (cons_option (overriding o v c g) rest)
      one None v c g rest = refl
      one (Some x) v c g rest = refl

      go : (js : List Joint) → filter_map (override there) js ≡ given (moved_expr k) (filter_map (override own) js)
      go [] = refl
      go (j ∷ js) =
          ap₂ cons_option (ap₃ (overriding j.name) (read_same j.value) (is_counted_moved k s.names j.value) (signed_moved k s.names j.value)) (go js)
          ∙ one j.name (read own j.value) (is_counted own.names j.value) (is_signed own.names j.value) (filter_map (override own) js)

  -- ---- widths of what is given

  leaning_joint_moved : (j : Joint) → leaning_joint there j ≡ leaning_joint own j
  leaning_joint_moved j =
      ap₂ (λ c n. cond c (option_map (leaning n) j.name) None) (leans_moved k s.names j.value)
      (ap (λ (v : Term). size v.expr) (read_same j.value) ∙ size_moved k (read own j.value).expr)
    where
      leaning : ℕ → Text → Leaning
      leaning n x = record { name = x; bits = n }

  leanings_moved : (js : List Joint) → filter_map (leaning_joint there) js ≡ filter_map (leaning_joint own) js
  leanings_moved [] = refl
  leanings_moved (j ∷ js) = ap₂ cons_option (leaning_joint_moved j) (leanings_moved js)

  pub leaning_moved : (m : ModuleTree) (params ports : ConnsTree) → leaning_of there m params ports ≡ leaning_of own m params ports
  leaning_moved m params ports = ap₂ (λ xs ys. xs ++ ys) (leanings_moved (joints (overridable m) params)) (leanings_moved (filter (takes_input m) (joints (header_of m) ports)))

  pub short_moved : (l : Leaning) → is_short (over prefix b s) l ≡ is_short s l
  short_moved l = ap (nat_lt l.bits) (ap (taken_bits there.entries) (known prefix b.entries own l.name) ∙ go (meaning own l.name))
    where
      go : (o : Option Meaning) → taken_bits there.entries (moved_if k o) ≡ taken_bits s.design.entries o
      go None = refl
      go (Some (a_param p)) = refl
      go (Some (a_signal n)) = width_moved prefix b.entries s.design.entries n
      go (Some (a_memory m)) = refl
      go (Some no_value) = refl

  -- ---- nothing that is connected is a reset

  module _ (h : IsPlain s) where
    no_reset_of : (e : ExprTree) → reset_of own e ≡ None
    no_reset_of (name x) = go (meaning own x)
      where
        go : (o : Option Meaning) → reset_meant own o ≡ None
        go None = refl
        go (Some (a_param p)) = refl
        go (Some (a_signal n)) = unreset_at s.design.entries h.unreset n
        go (Some (a_memory m)) = refl
        go (Some no_value) = refl
    no_reset_of (paren e) = no_reset_of e
    no_reset_of (number v w spelt) = refl
    no_reset_of (index x i) = refl
    no_reset_of (part x kind l r) = refl
    no_reset_of (unary op a) = refl
    no_reset_of (binary op a c) = refl
    no_reset_of (choice c a e) = refl
    no_reset_of (join parts) = refl
    no_reset_of (repeat c parts) = refl

    abbrev GivesNone : Option Link → Type 0
    GivesNone None = Unit {0}
    GivesNone (Some l) = GivesNoReset l

    link_none : (m : ModuleTree) (j : Joint) → GivesNone (linked own m j).link
    link_none m j = go j.name
      where
        at_port : (x : Text) (o : Option Direction) → GivesNone (linked_at own j.value x o).link
        at_port x None = tt
        at_port x (Some inward) = no_reset_of j.value
        at_port x (Some inner) = tt
        at_port x (Some outward) = tt

        go : (o : Option Text) → GivesNone (linked_to own j.value m o).link
        go None = tt
        go (Some x) = at_port x (port_direction m x)

    pub links_none : (m : ModuleTree) (given : ConnsTree) → HaveNoReset (links_of own m given)
    links_none m given = go (joints (header_of m) given)
      where
        one : (o : Option Link) (ls : List Link) → GivesNone o → HaveNoReset ls → HaveNoReset (cons_option o ls)
        one None ls g rest = rest
        one (Some l) ls g rest = All-cons GivesNoReset l ls g rest

        go : (js : List Joint) → HaveNoReset (filter_map (λ (j : Joint). (linked own m j).link) js)
        go [] = All-nil GivesNoReset
        go (j ∷ js) = one (linked own m j).link _ (link_none m j) (go js)

-- ---- connected ports

or_none : (r : Option ResetPin) → option_or r None ≡ r
or_none None = refl
or_none (Some x) = refl

module _ (prefix : Text) (b : Design) where
  abbrev n : ℕ
  n = length b.entries

  abbrev above : Design → Design
  above d = design_behind prefix b d

  assigned_above : (d : Design) (t : Target) (e : Expr) → assigned (above d) (moved_target n t) (moved_expr n e) ≡ above (assigned d t e)
  assigned_above d t e = ap (λ xs. record (above d) { assigns = xs }) (one_more (moved_assign n) b.assigns d.assigns (t, e))

  into_moved : (d : Design) (e : Expr) (r : Option ResetPin) (o : Option Meaning) → into_port (above d) (moved_expr n e) r (moved_if n o) ≡ above (into_port d e r o)
  into_moved d e r None = refl
  into_moved d e r (Some (a_param p)) = refl
  into_moved d e r (Some (a_signal s)) =
      ap (λ es. assigned (record (above d) { entries = es }) (Whole (n + s)) (moved_expr n e)) (change_moved prefix (resolving_to r) (λ x. refl) b.entries d.entries s)
      ∙ assigned_above (record d { entries = change_entry (resolving_to r) s d.entries }) (Whole s) e
  into_moved d e r (Some (a_memory m)) = refl
  into_moved d e r (Some no_value) = refl

  out_moved : (d : Design) (t : Target) (o : Option Meaning) → out_of_port (above d) (moved_target n t) (moved_if n o) ≡ above (out_of_port d t o)
  out_moved d t None = refl
  out_moved d t (Some (a_param p)) = refl
  out_moved d t (Some (a_signal s)) =
      ap₂ (λ w r. assigned (above d) (moved_target n t) (bits_read false (n + s) 0 w r)) (width_moved prefix b.entries d.entries s) (reset_moved prefix b.entries d.entries s)
      ∙ ap (assigned (above d) (moved_target n t)) (go (reset_at d.entries s)) ∙ assigned_above d t (bits_read false s 0 (width_at d.entries s) (reset_at d.entries s))
    where
      go : (r : Option ResetPin) → bits_read false (n + s) 0 (width_at d.entries s) r ≡ moved_expr n (bits_read false s 0 (width_at d.entries s) r)
      go None = refl
      go (Some x) = refl
  out_moved d t (Some (a_memory m)) = refl
  out_moved d t (Some no_value) = refl

  one_moved : (names : Names) (d : Design) (l : Link) → connect_one (moved_names n names) (above d) (moved_link n l) ≡ above (connect_one names d l)
  one_moved names d (into x e r) = ap (into_port (above d) (moved_expr n e) r) (meaning_moved n names x) ∙ into_moved d e r (meaning_in names x)
  one_moved names d (out_of x t) = ap (out_of_port (above d) (moved_target n t)) (meaning_moved n names x) ∙ out_moved d t (meaning_in names x)

  all_moved : (names : Names) (d : Design) (ls : List Link) → connect_all (moved_names n names) (above d) (map (moved_link n) ls) ≡ above (connect_all names d ls)
  all_moved names d [] = refl
  all_moved names d (l ∷ ls) = ap (λ c. connect_all (moved_names n names) c (map (moved_link n) ls)) (one_moved names d l) ∙ all_moved names (connect_one names d l) ls

  pub connected_moved : (ls : List Link) (s : Stage) → connected (map (moved_link n) ls) (over prefix b s) ≡ over prefix b (connected ls s)
  connected_moved ls s = ap (with_design (over prefix b s)) (all_moved s.names s.design ls)

-- what is connected to no reset stays plain
pub connected_plain : (ls : List Link) (s : Stage) → HaveNoReset ls → IsPlain s → IsPlain (connected ls s)
connected_plain ls s g h = go s.design ls g h
  where
    in_names : Design → Stage
    in_names d = record { names = s.names; design = d }

    into_plain : (d : Design) (e : Expr) (r : Option ResetPin) (o : Option Meaning) → r ≡ None → IsPlain (in_names d) → IsPlain (in_names (into_port d e r o))
    into_plain d e r None g h = h
    into_plain d e r (Some (a_param p)) g h = h
    into_plain d e r (Some (a_signal m)) g h =
        record { pins = h.pins; unreset = unreset_change (resolving_to r) (λ x p. ap₂ option_or p g) m d.entries h.unreset }
    into_plain d e r (Some (a_memory m)) g h = h
    into_plain d e r (Some no_value) g h = h

    out_plain : (d : Design) (t : Target) (o : Option Meaning) → IsPlain (in_names d) → IsPlain (in_names (out_of_port d t o))
    out_plain d t None h = h
    out_plain d t (Some (a_param p)) h = h
    out_plain d t (Some (a_signal m)) h = record { pins = h.pins; unreset = h.unreset }
    out_plain d t (Some (a_memory m)) h = h
    out_plain d t (Some no_value) h = h

    one_plain : (d : Design) (l : Link) → GivesNoReset l → IsPlain (in_names d) → IsPlain (in_names (connect_one s.names d l))
    one_plain d (into x e r) g h = into_plain d e r (meaning_in s.names x) g h
    one_plain d (out_of x t) g h = out_plain d t (meaning_in s.names x) h

    go : (d : Design) (ls : List Link) → HaveNoReset ls → IsPlain (in_names d) → IsPlain (in_names (connect_all s.names d ls))
    go d [] g h = h
    go d (l ∷ ls) g h = go (connect_one s.names d l) ls (All-tail GivesNoReset l ls g) (one_plain d l (All-head GivesNoReset l ls g) h)

-- ---- what links wire where none gives a reset: assignments, and nothing else

module _ (names : Names) where
  abbrev wire_at : List Entry → Link → Option Meaning → List (Target × Expr)
  wire_at es (into x e r) (Some (a_signal s)) = (Whole s, e) ∷ []
  wire_at es (out_of x t) (Some (a_signal s)) = (t, bits_read false s 0 (width_at es s) (reset_at es s)) ∷ []
  wire_at es l m = []

  abbrev port_of : Link → Text
  port_of (into x e r) = x
  port_of (out_of x t) = x

  abbrev pub wires : List Entry → List Link → List (Target × Expr)
  wires es [] = []
  wires es (l ∷ ls) = wire_at es l (meaning_in names (port_of l)) ++ wires es ls

  unresolved : (s : ℕ) (es : List Entry) → change_entry (resolving_to None) s es ≡ es
  unresolved s [] = refl
  unresolved zero (e ∷ es) = ap (λ r. record e { reset = r } ∷ es) (or_none e.reset)
  unresolved (suc s) (e ∷ es) = ap (λ xs. e ∷ xs) (unresolved s es)

  abbrev with_wires : Design → List (Target × Expr) → Design
  with_wires d xs = record d { assigns = d.assigns ++ xs }

  nothing_wired : (d : Design) → d ≡ with_wires d []
  nothing_wired d = ap (λ xs. record d { assigns = xs }) (sym (append-nil d.assigns))

  into_wires : (d : Design) (x : Text) (e : Expr) (o : Option Meaning) → into_port d e None o ≡ with_wires d (wire_at d.entries (into x e None) o)
  into_wires d x e None = nothing_wired d
  into_wires d x e (Some (a_param p)) = nothing_wired d
  into_wires d x e (Some (a_signal s)) = ap (λ es. assigned (record d { entries = es }) (Whole s) e) (unresolved s d.entries)
  into_wires d x e (Some (a_memory m)) = nothing_wired d
  into_wires d x e (Some no_value) = nothing_wired d

  out_wires : (d : Design) (x : Text) (t : Target) (o : Option Meaning) → out_of_port d t o ≡ with_wires d (wire_at d.entries (out_of x t) o)
  out_wires d x t None = nothing_wired d
  out_wires d x t (Some (a_param p)) = nothing_wired d
  out_wires d x t (Some (a_signal s)) = refl
  out_wires d x t (Some (a_memory m)) = nothing_wired d
  out_wires d x t (Some no_value) = nothing_wired d

  one_wires : (d : Design) (l : Link) → GivesNoReset l → connect_one names d l ≡ with_wires d (wire_at d.entries l (meaning_in names (port_of l)))
  one_wires d (into x e None) g = into_wires d x e (meaning_in names x)
  one_wires d (into x e (Some r)) g = absurd (search (rules, g))
  one_wires d (out_of x t) g = out_wires d x t (meaning_in names x)

  pub connect_wires : (d : Design) (ls : List Link) → HaveNoReset ls → connect_all names d ls ≡ with_wires d (wires d.entries ls)
  connect_wires d [] g = nothing_wired d
  connect_wires d (l ∷ ls) g =
      let xs = wire_at d.entries l (meaning_in names (port_of l)) in
      ap (λ c. connect_all names c ls) (one_wires d l (All-head GivesNoReset l ls g)) ∙ connect_wires (with_wires d xs) ls (All-tail GivesNoReset l ls g)
      ∙ ap (λ ys. record d { assigns = ys }) (append_assoc d.assigns xs (wires d.entries ls))

-- the same, where the names of ports mean the same signals, which are as wide and resolve to the same
pub wires_same : (names more : Names) (es fs : List Entry) → ((x : Text) → meaning_in more x ≡ meaning_in names x)
    → ((x : Text) (s : ℕ) → meaning_in names x ≡ Some (a_signal s) → (width_at fs s ≡ width_at es s) × (reset_at fs s ≡ reset_at es s)) → (ls : List Link) → wires more fs ls
    ≡ wires names es ls
wires_same names more es fs h j [] = refl
wires_same names more es fs h j (l ∷ ls) = ap₂ (λ xs ys. xs ++ ys) (one l) (wires_same names more es fs h j ls)
  where
    out : (x : Text) (t : Target) (o : Option Meaning) → meaning_in names x ≡ o → wire_at more fs (out_of x t) o ≡ wire_at names es (out_of x t) o
    out x t None e = refl
    out x t (Some (a_param p)) e = refl
    out x t (Some (a_signal s)) e = let p = j x s e in ap₂ (λ w r. (t, bits_read false s 0 w r) ∷ []) p.0 p.1
    out x t (Some (a_memory m)) e = refl
    out x t (Some no_value) e = refl

    in_same : (x : Text) (v : Expr) (r : Option ResetPin) (o : Option Meaning) → wire_at more fs (into x v r) o ≡ wire_at names es (into x v r) o
    in_same x v r None = refl
    in_same x v r (Some (a_param p)) = refl
    in_same x v r (Some (a_signal s)) = refl
    in_same x v r (Some (a_memory m)) = refl
    in_same x v r (Some no_value) = refl

    one : (l : Link) → wire_at more fs l (meaning_in more (port_of more l)) ≡ wire_at names es l (meaning_in names (port_of names l))
    one (into x v r) = ap (wire_at more fs (into x v r)) (h x) ∙ in_same x v r (meaning_in names x)
    one (out_of x t) = ap (wire_at more fs (out_of x t)) (h x) ∙ out x t (meaning_in names x) refl
