-- What instances give their ports, and what becomes of the ports of the top.
use Rattle.std.proofs.Common.{◌≡◌, ℕ, zero, suc, ◌+◌, ◌-◌, ◌≤◌, Bool, true, false, not, ◌&&◌, List, [], ◌∷◌, ◌++◌, length, Option, Some, None, refl, sym, ap, ap₂, subst, ◌∙◌, arith, rules}
use Rattle.std.specs.Prelude.{All, flat_map, filter_map, option_map}
use Rattle.std.specs.List.{cons_option}
use Rattle.std.proofs.lemmas.List.Elements.{All-head, All-cons, All-nil, All-tail, All-push}
use Rattle.cdc_base.specs.declared.signal.ResetPin.{ResetPin}
use Rattle.verilog_reading.specs.ExprTree.{ExprTree}
use Rattle.verilog_reading.specs.SourceTree.{ConnTree, ConnsTree, ordered, named, ModuleTree}
use Rattle.flat_meaning.specs.Flat.{Expr, size, Target, Whole}
use Rattle.flat_unfolding.specs.Outcome.{Text}
use Rattle.flat_unfolding.specs.Names.{width_of, Meaning, a_param, a_signal, a_memory, no_value, Names, meaning_in, Direction, inner, inward, outward, Entry, width_at, direction_at}
use Rattle.flat_unfolding.specs.Constants.{is_counted}
use Rattle.flat_unfolding.specs.Signs.{is_signed}
use Rattle.flat_unfolding.specs.Expressions.{as_constant, read}
use Rattle.flat_unfolding.specs.Targets.{is_input, first_pick}
use Rattle.flat_unfolding.specs.Parameters.{Override, overridable}
use Rattle.flat_unfolding.specs.Declarations.{header_of}
use Rattle.flat_unfolding.specs.Instances.{Joint, if_among, ordered_joints, named_joint, joints, joint_rules, override_rules, override, overrides_of, port_direction, Link, into, out_of, linked_at, linked_to, linked, connection_rules, links_of, resolving_to, into_port, out_of_port, connect_one, connect_all, connected}
use Rattle.flat_unfolding.specs.Design.{Design, no_design, assigned, Stage, look_of, with_design, change_entry}
use Rattle.flat_unfolding.specs.Signals.{from_outside}
use Rattle.flat_unfolding.specs.Unfolding.{declared_reset, with_resets, directed_port, top_port, top_ports}
use Rattle.flat_unfolding.specs.Formed.{IsFormed, IsFormedIf, AreConnsFormed}
use Rattle.flat_unfolding.specs.Sized.{IsSized, IsTargetSized}
use Rattle.flat_unfolding.proofs.Steps.{none_of_both, some_is}
use Rattle.flat_unfolding.proofs.Entries.{from_keeps, OnlyResets}
use Rattle.flat_unfolding.proofs.Known.{reg_at, top_at, IsNamed, AreNamed, StandsIf, stands}
use Rattle.flat_unfolding.proofs.Terms.{IsWide, size_wide, whole_sized}
use Rattle.flat_unfolding.proofs.Grown.{told, told_same, expr_agrees, target_agrees, Grows, grows_on, names_on, all_on}
use Rattle.flat_unfolding.proofs.Stages.{IsEntry, drivable_at, IsAssignIn, IsCombIn, IsClockedIn, IsDesign, IsStage, design_on, words_of, words, read_next, driven_next}
use Rattle.flat_unfolding.proofs.Directed.{KnowsPorts}
use Rattle.flat_unfolding.proofs.Declared.{change_all, AreFresh, meant_fresh, IsDeclaring, declared_stage, AreWide}

-- ---- what is given

abbrev pub AreJointsFormed : List Joint → Type 0
AreJointsFormed js = All (λ (j : Joint). IsFormed j.value) js

cons_all : {A : Type 0} (P : A → Type 0) (o : Option A) (xs : List A) → ((a : A) → o ≡ Some a → P a) → All P xs → All P (cons_option o xs)
cons_all P None xs h k = k
cons_all P (Some a) xs h k = All-cons P a xs (h a refl) k

ordered_formed : (names : List Text) (es : List (Option ExprTree)) → All IsFormedIf es → AreJointsFormed (ordered_joints names es)
ordered_formed names [] h = All-nil (λ (j : Joint). IsFormed j.value)
ordered_formed [] (None ∷ es) h = ordered_formed [] es (All-tail IsFormedIf None es h)
ordered_formed [] (Some e ∷ es) h = All-cons (λ (j : Joint). IsFormed j.value) (record { name = None; value = e }) (ordered_joints [] es) (All-head IsFormedIf (Some e) es h) (ordered_formed [] es (All-tail IsFormedIf (Some e) es h))
ordered_formed (x ∷ names) (None ∷ es) h = ordered_formed names es (All-tail IsFormedIf None es h)
ordered_formed (x ∷ names) (Some e ∷ es) h = All-cons (λ (j : Joint). IsFormed j.value) (record { name = Some x; value = e }) (ordered_joints names es) (All-head IsFormedIf (Some e) es h) (ordered_formed names es (All-tail IsFormedIf (Some e) es h))

named_formed : (names : List Text) (cs : List ConnTree) → All (λ (c : ConnTree). IsFormedIf c.value) cs → AreJointsFormed (filter_map (named_joint names) cs)
named_formed names [] h = All-nil (λ (j : Joint). IsFormed j.value)
named_formed names (c ∷ cs) h =
    cons_all (λ (j : Joint). IsFormed j.value) (named_joint names c) (filter_map (named_joint names) cs) (go c.value (All-head (λ (x : ConnTree). IsFormedIf x.value) c cs h))
    (named_formed names cs (All-tail (λ (x : ConnTree). IsFormedIf x.value) c cs h))
  where
    go : (o : Option ExprTree) → IsFormedIf o → (j : Joint) → option_map (λ (e : ExprTree). record { name = if_among names c.name; value = e }) o ≡ Some j → IsFormed j.value
    go None f j e = absurd (search (rules, e))
    go (Some v) f j e = subst (λ (y : Joint). IsFormed y.value) (some_is _ j e) f

pub joints_formed : (names : List Text) (cs : ConnsTree) → AreConnsFormed cs → AreJointsFormed (joints names cs)
joints_formed names (ordered es) h = ordered_formed names es h
joints_formed names (named cs) h = named_formed names cs h

-- ---- links

-- what goes into a port goes into an input
abbrev pub IsLink : ModuleTree → List Entry → Link → Type 0
IsLink m es (into x e r) = IsSized (width_at es) e × (port_direction m x ≡ Some inward)
IsLink m es (out_of x t) = IsTargetSized (width_at es) (drivable_at es) t × (first_pick t ≡ None)

link_on : (m : ModuleTree) (es fs : List Entry) → Grows es fs → (l : Link) → IsLink m es l → IsLink m fs l
link_on m es fs g (into x e r) h = (expr_agrees (width_at es) (width_at fs) (λ s k. (g s k).width) e h.0, h.1)
link_on m es fs g (out_of x t) h = (target_agrees (width_at es) (width_at fs) (λ s k. (g s k).width) (drivable_at es) (drivable_at fs) (λ s k e. ap₂ (λ a b. not a && not b) (g s k).top (g s k).reg ∙ e) t h.0, h.1)

module _ (s : Stage) (h : IsStage s) (m : ModuleTree) where
  abbrev IsLinkIf : Option Link → Type 0
  IsLinkIf o = (l : Link) → o ≡ Some l → IsLink m s.design.entries l

  an_input : (x : Text) (v : ExprTree) → IsFormed v → port_direction m x ≡ Some inward → (linked_at (look_of s) v x (Some inward)).broken ≡ [] → IsLinkIf (linked_at (look_of s) v x (Some inward)).link
  an_input x v f i e l k = subst (IsLink m s.design.entries) (some_is _ l k) (read_next s h v f e, i)

  at_port : (x : Text) (v : ExprTree) → IsFormed v → (d : Option Direction) → port_direction m x ≡ d → (linked_at (look_of s) v x d).broken ≡ [] → IsLinkIf (linked_at (look_of s) v x d).link
  at_port x v f None i e l k = absurd (search (rules, k))
  at_port x v f (Some inward) i e l k = an_input x v f i e l k
  at_port x v f (Some inner) i e l k = subst (IsLink m s.design.entries) (some_is _ l k) (driven_next s h v f e)
  at_port x v f (Some outward) i e l k = subst (IsLink m s.design.entries) (some_is _ l k) (driven_next s h v f e)

  linked_is : (v : ExprTree) → IsFormed v → (o : Option Text) → (linked_to (look_of s) v m o).broken ≡ [] → IsLinkIf (linked_to (look_of s) v m o).link
  linked_is v f None e l k = absurd (search (rules, k))
  linked_is v f (Some x) e l k = at_port x v f (port_direction m x) refl e l k

  links_are : (js : List Joint) → AreJointsFormed js → flat_map (λ (j : Joint). (linked (look_of s) m j).broken) js ≡ [] → All (IsLink m s.design.entries) (filter_map (λ (j : Joint). (linked (look_of s) m j).link) js)
  links_are [] f e = All-nil (IsLink m s.design.entries)
  links_are (j ∷ js) f e =
      let p = none_of_both (linked (look_of s) m j).broken (flat_map (λ (j : Joint). (linked (look_of s) m j).broken) js) e in
      cons_all (IsLink m s.design.entries) (linked (look_of s) m j).link _ (linked_is j.value (All-head (λ (j : Joint). IsFormed j.value) j js f) j.name p.0)
      (links_are js (All-tail (λ (j : Joint). IsFormed j.value) j js f) p.1)

  pub links_fine : (given : ConnsTree) → AreConnsFormed given → connection_rules (look_of s) m given ≡ [] → All (IsLink m s.design.entries) (links_of (look_of s) m given)
  links_fine given f e =
      let js = joints (header_of m) given in
      let p = none_of_both (joint_rules m.name (header_of m) given) (flat_map (λ (j : Joint). (linked (look_of s) m j).broken) js) e in
      links_are js (joints_formed (header_of m) given f) p.1

  -- ---- overrides

  overrides_are : (js : List Joint) → AreJointsFormed js → flat_map (λ (j : Joint). (as_constant (read (look_of s) j.value)).broken) js ≡ [] → AreWide (filter_map (override (look_of s)) js)
  overrides_are [] f e = All-nil (λ (q : Text × Override). IsWide (size q.1.value))
  overrides_are (j ∷ js) f e =
      let p = none_of_both (as_constant (read (look_of s) j.value)).broken (flat_map (λ (j : Joint). (as_constant (read (look_of s) j.value)).broken) js) e in
      let v = read_next s h j.value (All-head (λ (j : Joint). IsFormed j.value) j js f) (none_of_both (read (look_of s) j.value).broken _ p.0).0 in
      cons_all (λ (q : Text × Override). IsWide (size q.1.value)) (override (look_of s) j) (filter_map (override (look_of s)) js)
      (go j.name (size_wide (width_at s.design.entries) (words s h) (read (look_of s) j.value).expr v))
      (overrides_are js (All-tail (λ (j : Joint). IsFormed j.value) j js f) p.1)
    where
      go : (o : Option Text) → IsWide (size (read (look_of s) j.value).expr) → (q : Text × Override)
          → option_map (λ (x : Text). (x, record { value = (read (look_of s) j.value).expr; is_counted = is_counted (look_of s).names j.value; is_signed = is_signed (look_of s).names j.value })) o ≡ Some q → IsWide (size q.1.value)
      go None w q e = absurd (search (rules, e))
      go (Some x) w q e = subst (λ (y : Text × Override). IsWide (size y.1.value)) (some_is _ q e) w

  pub overrides_fine : (given : ConnsTree) → AreConnsFormed given → override_rules (look_of s) m given ≡ [] → AreWide (overrides_of (look_of s) m given)
  overrides_fine given f e =
      let js = joints (overridable m) given in
      let p = none_of_both (joint_rules m.name (overridable m) given) _ e in
      overrides_are js (joints_formed (overridable m) given f) p.1

-- ---- ports of an instance

-- what is done to the ports of a declared module keeps its design well sized
pub record IsOpened (d : Design) (t : Stage) : Type 0 where
  pub stage : IsStage t
  pub grows : Grows d.entries t.design.entries

abbrev pub OpensPorts : ModuleTree → Design → (Stage → Stage) → Type 0
OpensPorts m d ports = (t : Stage) → IsDesign d → IsDeclaring d t → KnowsPorts m t → IsOpened d (ports t)

module _ (f : Entry → Entry) (only : OnlyResets f) where
  reset_grows : (n : ℕ) (es : List Entry) → Grows es (change_entry f n es)
  reset_grows n es s h = record {
    width = told_same (λ (e : Entry). width_of e.range) 0 f (λ e. ap (λ (x : Entry). width_of x.range) (only e)) n es s;
    reg = told_same (λ (e : Entry). e.is_reg) false f (λ e. ap (λ (x : Entry). x.is_reg) (only e)) n es s;
    is_open = told_same (λ (e : Entry). e.is_open) false f (λ e. ap (λ (x : Entry). x.is_open) (only e)) n es s;
    top = told_same (λ (e : Entry). e.is_top_input) false f (λ e. ap (λ (x : Entry). x.is_top_input) (only e)) n es s;
  }

  reset_entries : (n : ℕ) (es : List Entry) → All IsEntry es → All IsEntry (change_entry f n es)
  reset_entries n [] h = h
  reset_entries zero (e ∷ es) h =
      let i = All-head IsEntry e es h in
      All-cons IsEntry (f e) es (subst IsEntry (sym (only e)) (record { narrow = i.narrow; input = i.input; top = i.top })) (All-tail IsEntry e es h)
  reset_entries (suc n) (e ∷ es) h = All-cons IsEntry e (change_entry f n es) (All-head IsEntry e es h) (reset_entries n es (All-tail IsEntry e es h))

-- a module whose signals become the resets that they are declared as is declared as before
pub resets_declare : (m : ModuleTree) (d : Design) (n : ℕ) (s : Stage)
    → IsDeclaring d s → KnowsPorts m s → IsDeclaring d (with_resets n s) × KnowsPorts m (with_resets n s)
resets_declare m d n s h k =
    from_keeps (λ es. IsDeclaring d (over es) × KnowsPorts m (over es)) f one n (length s.design.entries - n) s.design.entries (h, k)
  where
    f : Entry → Entry
    f = declared_reset s.design.pins

    over : List Entry → Stage
    over es = with_design s (record s.design { entries = es })

    one : (i : ℕ) (es : List Entry) → IsDeclaring d (over es) × KnowsPorts m (over es)
        → IsDeclaring d (over (change_entry f i es)) × KnowsPorts m (over (change_entry f i es))
    one i es p =
        let fs = change_entry f i es in
        let g = reset_grows f (λ e. refl) i es in
        let declaring : IsDeclaring d (over fs) = record {
          same = ap (λ (x : Design). record x { entries = fs }) p.0.same;
          grows = grows_on d.entries es fs p.0.grows g;
          entries = reset_entries f (λ e. refl) i es p.0.entries;
          names = names_on es fs s.names g p.0.names;
          fresh = p.0.fresh;
          plain = λ q l. told_same (λ (e : Entry). e.is_top_input) false f (λ e. refl) i es q ∙ p.0.plain q l;
        } in
        (declaring, λ x q a b. told_same (λ (e : Entry). e.is_reg) false f (λ e. refl) i es q ∙ p.1 x q a b)

module _ (m : ModuleTree) (start : Design) (own : Names) (fresh : AreFresh (length start.entries) own) where
  -- while ports are connected
  pub record IsLinking (d : Design) : Type 0 where
    pub design : IsDesign d
    pub names : AreNamed d.entries own
    pub grows : Grows start.entries d.entries
    pub plain : (n : ℕ) → length start.entries ≤ n → top_at d.entries n ≡ false
    pub inputs : (x : Text) (n : ℕ) → meaning_in own x ≡ Some (a_signal n) → port_direction m x ≡ Some inward → reg_at d.entries n ≡ false

  further : (d : Design) (t : Target) (e : Expr) → IsLinking d → IsAssignIn d.entries (t, e) → IsLinking (assigned d t e)
  further d t e h a = record {
    design = record {
      entries = h.design.entries;
      assigns = All-push (IsAssignIn d.entries) d.assigns (t, e) h.design.assigns a;
      combs = h.design.combs;
      clocked = h.design.clocked;
      outputs = h.design.outputs;
    };
    names = h.names;
    grows = h.grows;
    plain = h.plain;
    inputs = h.inputs;
  }

  into_links : (d : Design) (x : Text) (e : Expr) (r : Option ResetPin) (o : Option Meaning) → meaning_in own x ≡ o → StandsIf d.entries o → IsLink m d.entries (into x e r) → IsLinking d → IsLinking (into_port d e r o)
  into_links d x e r None j i k h = h
  into_links d x e r (Some (a_param p)) j i k h = h
  into_links d x e r (Some (a_memory p)) j i k h = h
  into_links d x e r (Some no_value) j i k h = h
  into_links d x e r (Some (a_signal n)) j i k h =
      let es = d.entries in let f = resolving_to r in let fs = change_entry f n es in
      let g = reset_grows f (λ a. refl) n es in
      let c : Design = record d { entries = fs } in
      let linking : IsLinking c = record {
        design = design_on d fs g (reset_entries f (λ a. refl) n es h.design.entries) h.design;
        names = names_on es fs own g h.names;
        grows = grows_on start.entries es fs h.grows g;
        plain = λ q l. told_same (λ (e : Entry). e.is_top_input) false f (λ e. refl) n es q ∙ h.plain q l;
        inputs = λ y q a b. told_same (λ (e : Entry). e.is_reg) false f (λ e. refl) n es q ∙ h.inputs y q a b;
      } in
      let l = meant_fresh (length start.entries) own x n fresh j in
      further c (Whole n) e linking
      ((ap₂ (λ a b. not a && not b) (linking.plain n l) (linking.inputs x n j k.1), subst (λ w. 1 ≤ w) (sym (g n i).width) i), refl, expr_agrees (width_at es) (width_at fs) (λ s k. (g s k).width) e k.0)

  out_links : (d : Design) (t : Target) (o : Option Meaning) → StandsIf d.entries o → IsTargetSized (width_at d.entries) (drivable_at d.entries) t × (first_pick t ≡ None) → IsLinking d → IsLinking (out_of_port d t o)
  out_links d t None i k h = h
  out_links d t (Some (a_param p)) i k h = h
  out_links d t (Some (a_memory p)) i k h = h
  out_links d t (Some no_value) i k h = h
  out_links d t (Some (a_signal n)) i k h = further d t _ h (k.0, k.1, whole_sized (record { names = []; entries = d.entries; active = false }) (words_of d.entries h.design.entries) n i)

  one_links : (d : Design) (l : Link) → IsLink m start.entries l → IsLinking d → IsLinking (connect_one own d l)
  one_links d (into x e r) k h = into_links d x e r (meaning_in own x) refl (stands d.entries own x h.names) (link_on m start.entries d.entries h.grows (into x e r) k) h
  one_links d (out_of x t) k h = out_links d t (meaning_in own x) (stands d.entries own x h.names) (link_on m start.entries d.entries h.grows (out_of x t) k) h

  pub all_link : (d : Design) (ls : List Link) → All (IsLink m start.entries) ls → IsLinking d → IsLinking (connect_all own d ls)
  all_link d [] k h = h
  all_link d (l ∷ ls) k h = all_link (connect_one own d l) ls (All-tail (IsLink m start.entries) l ls k) (one_links d l (All-head (IsLink m start.entries) l ls k) h)

pub connected_opens : (m : ModuleTree) (d : Design) (links : List Link) → All (IsLink m d.entries) links → OpensPorts m d (connected links)
connected_opens m d links k t a h i =
    let s = declared_stage d t a h in
    let l = all_link m d t.names h.fresh t.design links k (record { design = s.design; names = s.names; grows = h.grows; plain = h.plain; inputs = i }) in
    record { stage = record { names = l.names; design = l.design }; grows = l.grows }

-- ---- ports of the top

abbrev is_inward : Entry → Bool
is_inward e = is_input e.direction

input_at : (es : List Entry) (n : ℕ) → direction_at es n ≡ inward → told is_inward false es n ≡ true
input_at [] n h = absurd (search (rules, h))
input_at (e ∷ es) zero h = ap is_input h
input_at (e ∷ es) (suc n) h = input_at es n h

module _ (own : Names) where
  -- nothing is driven yet
  pub record IsTopping (d : Design) : Type 0 where
    pub entries : All IsEntry d.entries
    pub names : AreNamed d.entries own
    pub outputs : All (λ s. 1 ≤ width_at d.entries s) d.outputs
    pub no_assigns : d.assigns ≡ []
    pub no_combs : d.combs ≡ []
    pub no_clocked : d.clocked ≡ []

  top_named : (n : ℕ) (es : List Entry) (m : Meaning) → IsNamed es m → IsNamed (change_entry from_outside n es) m
  top_named n es (a_param p) h = h
  top_named n es (a_signal s) h = subst (λ w. 1 ≤ w) (sym (told_same (λ (e : Entry). width_of e.range) 0 from_outside (λ e. refl) n es s)) h
  top_named n es (a_memory m) h = (
    h.0,
    λ i l.
        let w = h.1 i l in (
          subst (λ x. 1 ≤ x) (sym (told_same (λ (e : Entry). width_of e.range) 0 from_outside (λ e. refl) n es (m.first + i))) w.0,
          told_same (λ (e : Entry). e.is_reg) false from_outside (λ e. refl) n es (m.first + i) ∙ w.1,
          told_same (λ (e : Entry). e.is_open) false from_outside (λ e. refl) n es (m.first + i) ∙ w.2,
        ),
  )
  top_named n es no_value h = tt

  inward_tops : (d : Design) (s : ℕ) → direction_at d.entries s ≡ inward → IsTopping d
      → IsTopping (record d { entries = change_entry from_outside s d.entries })
  inward_tops d s e h =
      let es = d.entries in let fs = change_entry from_outside s es in
      record {
        entries = change_all is_inward from_outside (λ x i k. record { narrow = k.narrow; input = k.input; top = λ j. i }) s es (input_at es s e) h.entries;
        names = all_on (λ (p : Text × Meaning). IsNamed es p.1) (λ (p : Text × Meaning). IsNamed fs p.1) own (λ p. top_named s es p.1) h.names;
        outputs = all_on (λ n. 1 ≤ width_at es n) (λ n. 1 ≤ width_at fs n) d.outputs (λ n k. subst (λ w. 1 ≤ w) (sym (told_same (λ (e : Entry). width_of e.range) 0 from_outside (λ e. refl) s es n)) k) h.outputs;
        no_assigns = h.no_assigns;
        no_combs = h.no_combs;
        no_clocked = h.no_clocked;
      }

  output_tops : (d : Design) (s : ℕ) → 1 ≤ width_at d.entries s → IsTopping d → IsTopping (record d { outputs = d.outputs ++ (s ∷ []) })
  output_tops d s w h = record {
    entries = h.entries;
    names = h.names;
    outputs = All-push (λ n. 1 ≤ width_at d.entries n) d.outputs s h.outputs w;
    no_assigns = h.no_assigns;
    no_combs = h.no_combs;
    no_clocked = h.no_clocked;
  }

  side_tops : (d : Design) (s : ℕ) (side : Direction) → direction_at d.entries s ≡ side → 1 ≤ width_at d.entries s → IsTopping d → IsTopping (directed_port d s side)
  side_tops d s inward e w h = inward_tops d s e h
  side_tops d s inner e w h = output_tops d s w h
  side_tops d s outward e w h = output_tops d s w h

  port_tops : (d : Design) (o : Option Meaning) → StandsIf d.entries o → IsTopping d → IsTopping (top_port d o)
  port_tops d None i h = h
  port_tops d (Some (a_param p)) i h = h
  port_tops d (Some (a_memory p)) i h = h
  port_tops d (Some no_value) i h = h
  port_tops d (Some (a_signal s)) i h = side_tops d s (direction_at d.entries s) refl i h

pub tops : (xs : List Text) (s : Stage) → IsTopping s.names s.design → IsTopping (top_ports xs s).names (top_ports xs s).design
tops [] s h = h
tops (x ∷ xs) s h = tops xs (with_design s (top_port s.design (meaning_in s.names x))) (port_tops s.names s.design (meaning_in s.names x) (stands s.design.entries s.names x h.names) h)

none_is : {A : Type 0} (P : A → Type 0) (xs : List A) → xs ≡ [] → All P xs
none_is P xs e = subst (All P) (sym e) (All-nil P)

pub top_opens : (m : ModuleTree) (resets : List ResetPin) (xs : List Text) → OpensPorts m (no_design resets) (top_ports xs)
top_opens m resets xs t a h i =
    let s = declared_stage (no_design resets) t a h in
    let u = top_ports xs t in
    let l = tops xs t (record {
      entries = h.entries;
      names = h.names;
      outputs = s.design.outputs;
      no_assigns = ap (λ (d : Design). d.assigns) h.same;
      no_combs = ap (λ (d : Design). d.combs) h.same;
      no_clocked = ap (λ (d : Design). d.clocked) h.same;
    }) in
    record {
      stage = record {
        names = l.names;
        design = record { entries = l.entries; assigns = none_is (IsAssignIn u.design.entries) u.design.assigns l.no_assigns; combs = none_is (IsCombIn u.design.entries) u.design.combs l.no_combs; clocked = none_is (IsClockedIn u.design.entries) u.design.clocked l.no_clocked; outputs = l.outputs };
      };
      grows = λ n k. absurd (omega (arith, k));
    }
