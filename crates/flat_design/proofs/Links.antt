-- Connections so far, and one more.
use Rattle.std.proofs.Common.{◌≡◌, ℕ, Bool, true, false, cond, List, [], ◌∷◌, ◌++◌, map, Option, Some, None, refl, sym, ap, ap₂, subst, ◌∙◌, rules, append-nil}
use Rattle.std.specs.Prelude.{filter, filter_map, option_map, option_and_then}
use Rattle.std.specs.Option.{option_map_or}
use Rattle.std.specs.List.{AllZip, cons_option}
use Rattle.std.proofs.lemmas.List.Elements.{filter-append, filter_map-append}
use Rattle.indexmap.specs.IndexMap.{IndexMap}
use Rattle.cdc_base.specs.declared.signal.ResetPin.{ResetPin}
use Rattle.verilog_reading.specs.ExprTree.{ExprTree}
use Rattle.verilog_reading.specs.SourceTree.{ConnsTree, ModuleTree}
use Rattle.flat_unfolding.specs.Outcome.{Text}
use Rattle.flat_unfolding.specs.Names as n
use Rattle.flat_unfolding.specs.Names.{Direction, inner, inward, outward, Look, meaning_in, Names}
use Rattle.flat_unfolding.specs.Expressions.{read}
use Rattle.flat_unfolding.specs.Targets.{is_input, driven}
use Rattle.flat_unfolding.specs.Declarations.{header_of}
use Rattle.flat_unfolding.specs.Instances.{Joint, joints, joint_rules, port_direction, Link, into, out_of, reset_of, only_read, linked_at, linked_to, linked, Leaning, leaning_joint, takes_input, connection_rules}
use Rattle.flat_unfolding.proofs.Steps.{none_of_both, some_is}
use Rattle.flat_unfolding.proofs.Terms.{sound_is}
use Rattle.flat_names.specs.declared.scope.Meaning.{Meaning}
use Rattle.flat_names.specs.declared.scope.Meaning.TheVariants as m
use Rattle.flat_names.specs.Looks.{kept_in, meaning_of}
use Rattle.flat_names.specs.Designs.{ShowsNames, IsReset}
use Rattle.flat_names.specs.Noting.{Noted, all_noted}
use Rattle.flat_names.proofs.Notes.{then-noted}
use Rattle.flat_names.specs.declared.design.Reset.{Reset}
use Rattle.flat_names.specs.declared.resolved.Resolved.{Resolved}
use Rattle.flat_names.specs.Pieces.{IsRead}
use Rattle.flat_names.specs.Signs.{signs_of}
use Rattle.flat_statements.proofs.Sizes.{sized-keeps}
use Rattle.flat_design.specs.declared.instance.Connection.{Connection}
use Rattle.flat_design.specs.declared.instance.Connected.{Connected}
use Rattle.flat_design.specs.declared.instance.End.TheVariants as ends
use Rattle.flat_design.specs.Visiting.{leaning_in, leaning_if, joint_if, side_of, IsPlace, side_named, placed, name_at, read_of, IsEnd, IsLinkOf, GivesLinks, AreLinked, if_signal}
use Rattle.flat_design.proofs.Joints.{flat-both}
use Rattle.flat_design.proofs.Leaning.{leaning-is}

zip-push : {A B : Type 0} (R : A → B → Type 0) (xs : List A) (ys : List B) (x : A) (y : B) → AllZip R xs ys → R x y → AllZip R (xs ++ x ∷ []) (ys ++ y ∷ [])
zip-push R [] [] x y h r = (r, tt)
zip-push R [] (b ∷ ys) x y h r = absurd h
zip-push R (a ∷ xs) [] x y h r = absurd h
zip-push R (a ∷ xs) (b ∷ ys) x y h r = (h.0, zip-push R xs ys x y h.1 r)

-- ---- where a port leads

no-direction : (o : Option Direction) → side_of o ≡ None → o ≡ None
no-direction None e = refl
no-direction (Some inner) e = absurd (search (rules, e))
no-direction (Some inward) e = absurd (search (rules, e))
no-direction (Some outward) e = absurd (search (rules, e))

pub an-input : (o : Option Direction) → side_of o ≡ Some true → o ≡ Some inward
an-input None e = absurd (search (rules, e))
an-input (Some inner) e = absurd (search (rules, e))
an-input (Some inward) e = refl
an-input (Some outward) e = absurd (search (rules, e))

module _ (l : Look) (m : ModuleTree) (v : ExprTree) where
  pub undirected-is : (x : Option Text) → side_named m x ≡ None → linked_to l v m x ≡ only_read l v
  undirected-is None e = refl
  undirected-is (Some x) e = ap (linked_at l v x) (no-direction (port_direction m x) e)

  pub input-is : (x : Text) → side_named m (Some x) ≡ Some true
      → linked_to l v m (Some x) ≡ record { link = Some (into x (read l v).expr (reset_of l v)); broken = (read l v).broken }
  input-is x e = ap (linked_at l v x) (an-input (port_direction m x) e)

  pub output-is : (x : Text) → side_named m (Some x) ≡ Some false → linked_to l v m (Some x) ≡ record { link = Some (out_of x (driven l v).target); broken = (driven l v).broken }
  output-is x e = go (port_direction m x) e
    where
      go : (o : Option Direction) → side_of o ≡ Some false → linked_at l v x o ≡ record { link = Some (out_of x (driven l v).target); broken = (driven l v).broken }
      go None e = absurd (search (rules, e))
      go (Some inner) e = refl
      go (Some inward) e = absurd (search (rules, e))
      go (Some outward) e = refl

-- no connection
pub linked-start : {S : Type 0} (pins : List ResetPin) (l : Look) (m : ModuleTree) (ports : IndexMap Text (Option Bool) S) (c : Connected) → c.connections.items ≡ [] → c.leaning.items ≡ [] → AreLinked pins l m ports [] c
linked-start pins l m ports c e d b = (subst (λ cs. AllZip (IsLinkOf pins ports) cs []) (sym e) tt, ap (map leaning_in) d)

-- ---- one connection more

module _ {S : Type 0} (pins : List ResetPin) (l : Look) (m : ModuleTree) (ports : IndexMap Text (Option Bool) S) (js : List Joint) (old : Connected) (h : AreLinked pins l m ports js old) where
  abbrev link_of : Joint → Option Link
  link_of j = (linked l m j).link

  parts-of : (j : Joint) → read_of l m (js ++ j ∷ []) ≡ [] → (read_of l m js ≡ []) × (read_of l m (j ∷ []) ≡ [])
  parts-of j b = none_of_both (read_of l m js) (read_of l m (j ∷ [])) (sym (flat-both (λ (i : Joint). (linked l m i).broken) js (j ∷ [])) ∙ b)

  -- what leans of the connections of inputs, with one more
  leaning-more : (j : Joint) (b : Bool) → takes_input m j ≡ b
      → filter_map (leaning_joint l) (filter (takes_input m) (js ++ j ∷ [])) ≡ filter_map (leaning_joint l) (filter (takes_input m) js) ++ cond b (cons_option (leaning_joint l j) []) []
  leaning-more j b e =
      ap (filter_map (leaning_joint l)) (filter-append (takes_input m) js (j ∷ []))
      ∙ filter_map-append (leaning_joint l) (filter (takes_input m) js) (cond (takes_input m j) (j ∷ []) [])
      ∙ ap (λ t. filter_map (leaning_joint l) (filter (takes_input m) js) ++ filter_map (leaning_joint l) (cond t (j ∷ []) [])) e
      ∙ ap (λ xs. filter_map (leaning_joint l) (filter (takes_input m) js) ++ xs) (go b)
    where
      go : (t : Bool) → filter_map (leaning_joint l) (cond t (j ∷ []) []) ≡ cond t (cons_option (leaning_joint l j) []) []
      go true = refl
      go false = refl

  -- what has no port, or one without direction
  pub linked-read : (j : Joint) → side_named m j.name ≡ None → AreLinked pins l m ports (js ++ j ∷ []) old
  linked-read j e b =
      let now = h (parts-of j b).0 in (
        subst (λ ls. AllZip (IsLinkOf pins ports) old.connections.items ls)
            (sym (filter_map-append link_of js (j ∷ []) ∙ ap (λ o. filter_map link_of js ++ cons_option o []) (ap (λ k. k.link) (undirected-is l m j.value j.name e)) ∙ append-nil _))
            now.0,
        now.1 ∙ sym (leaning-more j false (no-input j.name e) ∙ append-nil _),
      )
    where
      no-input : (x : Option Text) → side_named m x ≡ None → option_map_or is_input (option_and_then (port_direction m) x) false ≡ false
      no-input None e = refl
      no-input (Some y) e = ap (λ o. option_map_or is_input o false) (no-direction (port_direction m y) e)

  -- what is connected to a port
  pub linked-more : (x : Text) (v : ExprTree) (b : Bool) (k : Link) (c : Connection) (new : Connected) (more : List Leaning) → side_named m (Some x) ≡ Some b → new.connections.items ≡ old.connections.items ++ c ∷ []
      → map leaning_in new.leaning.items ≡ map leaning_in old.leaning.items ++ more → (linked_to l v m (Some x)).link ≡ Some k
      → ((linked_to l v m (Some x)).broken ≡ [] → IsLinkOf pins ports c k × (more ≡ cond b (cons_option (leaning_joint l (record { name = Some x; value = v })) []) [])) → AreLinked pins l m ports (js ++ (record { name = Some x; value = v }) ∷ []) new
  linked-more x v b k c new more e cs ls q r d =
      let j : Joint = record { name = Some x; value = v } in
      let parts = parts-of j d in
      let now = h parts.0 in
      let one = r (sym (append-nil (linked_to l v m (Some x)).broken) ∙ parts.1) in (
        subst (λ xs. AllZip (IsLinkOf pins ports) xs (filter_map link_of (js ++ j ∷ []))) (sym cs)
            (subst (λ xs. AllZip (IsLinkOf pins ports) (old.connections.items ++ c ∷ []) xs) (sym (filter_map-append link_of js (j ∷ []) ∙ ap (λ o. filter_map link_of js ++ cons_option o []) q))
            (zip-push (IsLinkOf pins ports) old.connections.items (filter_map link_of js) c k now.0 one.0)),
        ls ∙ ap₂ (λ s t. s ++ t) now.1 one.1 ∙ sym (leaning-more j b (side-input (port_direction m x) b e)),
      )
    where
      side-input : (o : Option Direction) (b : Bool) → side_of o ≡ Some b → option_map_or is_input o false ≡ b
      side-input None b e = absurd (search (rules, e))
      side-input (Some inner) b e = some_is false b e
      side-input (Some inward) b e = some_is true b e
      side-input (Some outward) b e = some_is false b e

  -- a port that has no side
  pub linked-only : (x : Option Text) (v : ExprTree) → side_named m x ≡ None → AreLinked pins l m ports (js ++ joint_if x (Some v)) old × (read_of l m (joint_if x (Some v)) ≡ (read l v).broken)
  linked-only x v e = (linked-read (record { name = x; value = v }) e, append-nil (linked_to l v m x).broken ∙ ap (λ k. k.broken) (undirected-is l m v x e))

  -- an input
  pub linked-in : (x : Text) (v : ExprTree) (r : Resolved) (q : Option Reset) (c : Connection) (new : Connected) → name_at ports c.port ≡ Some x → side_named m (Some x) ≡ Some true → c.end ≡ ends.Input r.expr q
      → IsReset pins q (reset_of l v) → IsRead (read l v) r → r.signs ≡ signs_of l.names v → new.connections.items ≡ old.connections.items ++ c ∷ [] → map leaning_in new.leaning.items ≡ map leaning_in old.leaning.items ++ leaning_if r x
      → AreLinked pins l m ports (js ++ joint_if (Some x) (Some v)) new
  linked-in x v r q c new at side end reset is signs cs ls =
      let k = into x (read l v).expr (reset_of l v) in
      let as_input = input-is l m v x side in
      linked-more x v true k c new (leaning_if r x) side cs ls (ap (λ z. z.link) as_input) (λ b.
      let sound = is.sound ∙ sound_is (read l v) (sym (ap (λ z. z.broken) as_input) ∙ b) in (
        (at, subst (λ z. IsEnd pins z k) (sym end) (is.expr sound, sized-keeps r.expr (is.sized sound), reset)),
        leaning-is l v r x (is.expr sound) (is.sized sound) signs,
      ))

  -- an output
  pub linked-out : (x : Text) (v : ExprTree) (c : Connection) (new : Connected) → name_at ports c.port ≡ Some x → side_named m (Some x) ≡ Some false → IsEnd pins c.end (out_of x (driven l v).target)
      → new.connections.items ≡ old.connections.items ++ c ∷ [] → new.leaning.items ≡ old.leaning.items → AreLinked pins l m ports (js ++ joint_if (Some x) (Some v)) new
  linked-out x v c new at side end cs ls =
      linked-more x v false (out_of x (driven l v).target) c new [] side cs (ap (map leaning_in) ls ∙ sym (append-nil (map leaning_in old.leaning.items))) (ap (λ z. z.link) (output-is l m v x side)) (λ b. ((at, end), refl))

-- what is noted of an input's or an output's connection
module _ (l : Look) (m : ModuleTree) (x : Text) (v : ExprTree) where
  pub noted-in : side_named m (Some x) ≡ Some true → read_of l m (joint_if (Some x) (Some v)) ≡ (read l v).broken
  noted-in side = append-nil (linked_to l v m (Some x)).broken ∙ ap (λ k. k.broken) (input-is l m v x side)

  pub noted-out : side_named m (Some x) ≡ Some false → read_of l m (joint_if (Some x) (Some v)) ≡ (driven l v).broken
  noted-out side = append-nil (linked_to l v m (Some x)).broken ∙ ap (λ k. k.broken) (output-is l m v x side)

-- what a place and a side tell of a name
module _ {S : Type 0} (ports : IndexMap Text (Option Bool) S) (m : ModuleTree) where
  pub placed-none : (port : Option ℕ) (x : Option Text) → IsPlace ports port x → None ≡ placed port (side_named m x) → side_named m x ≡ None
  placed-none None None p e = refl
  placed-none None (Some x) p e = absurd p
  placed-none (Some k) x p e = go (side_named m x) e
    where
      go : (s : Option Bool) → None ≡ placed (Some k) s → s ≡ None
      go None e = refl
      go (Some b) e = absurd (search (rules, e))

  pub named-place : (x : Option Text) (k : ℕ) → IsPlace ports (Some k) x → (y : Text) × (x ≡ Some y) × (name_at ports k ≡ Some y)
  named-place None k p = absurd p
  named-place (Some y) k p = (y, refl, p)

  pub placed-some : (port : Option ℕ) (x : Option Text) (k : ℕ) (b : Bool) → Some (k, b) ≡ placed port (side_named m x) → (port ≡ Some k) × (side_named m x ≡ Some b)
  placed-some None x k b e = absurd (search (rules, e))
  placed-some (Some i) x k b e = go (side_named m x) e
    where
      go : (s : Option Bool) → Some (k, b) ≡ placed (Some i) s → (Some i ≡ Some k) × (s ≡ Some b)
      go None e = absurd (search (rules, e))
      go (Some c) e = let q = some_is (k, b) (i, c) e in (ap (λ (z : ℕ × Bool). Some z.0) (sym q), ap (λ (z : ℕ × Bool). Some z.1) (sym q))

-- ---- all connections

module _ {S : Type 0} (pins : List ResetPin) (l : Look) (m : ModuleTree) (ports : IndexMap Text (Option Bool) S) (c : Connected) (f0 f1 f2 : Noted) where
  -- what connections are, and what is noted of them
  abbrev pub AreConnected : ConnsTree → Type 0
  AreConnected given = (f2 ≡ all_noted f0 (connection_rules l m given)) × (connection_rules l m given ≡ [] → GivesLinks pins l m ports (joints (header_of m) given) c)

  pub connections-are : (given kept : ConnsTree) → given ≡ kept → f1 ≡ all_noted f0 (joint_rules m.name (header_of m) kept)
      → AreLinked pins l m ports (joints (header_of m) kept) c × (f2 ≡ all_noted f1 (read_of l m (joints (header_of m) kept))) → AreConnected given
  connections-are given kept same e h =
      let rules_ = joint_rules m.name (header_of m) kept in
      let reads = read_of l m (joints (header_of m) kept) in
      subst AreConnected (sym same) (then-noted f0 f1 f2 rules_ reads e h.1, λ none. h.0 (none_of_both rules_ reads none).1)

-- ---- the signals of ports in their module

module _ {S : Type 0} (table : IndexMap Text Meaning S) (names : Names) (h : ShowsNames table names) (x : Text) where
  pub signal-is : (o : Option Meaning) → o ≡ kept_in table x → if_signal (option_map meaning_of o) ≡ if_signal (meaning_in names x)
  signal-is o e = go o ∙ ap (λ p. if_signal (option_and_then n.as_value p)) (ap (option_map meaning_of) e ∙ h.kept x)
    where
      go : (o : Option Meaning) → if_signal (option_map meaning_of o) ≡ if_signal (option_and_then n.as_value (option_map meaning_of o))
      go None = refl
      go (Some (m.Param p)) = refl
      go (Some (m.Signal s)) = refl
      go (Some (m.Memory a)) = refl
      go (Some m.NoValue) = refl
