-- Expressions that read as targets, and what their parts are resolved to.
use Rattle.std.proofs.Common.{◌≡◌, Bool, ◌&&◌, List, [], ◌∷◌, ◌++◌, Option, Some, None, is_some, refl, sym, ap, subst, ◌∙◌}
use Rattle.std.specs.Prelude.{option_map}
use Rattle.verilog_reading.specs.ExprTree.{ExprTree, number, name, index, part, unary, binary, choice, join, repeat, paren, ExprTrees, no_trees, and_trees, TargetTree, whole, index_of, part_of, TargetTrees, join_of, no_parts, and_parts}
use Rattle.flat_unfolding.specs.Names.{Look}
use Rattle.flat_unfolding.specs.Targets as t
use Rattle.flat_unfolding.specs.Targets.{Aim, of_wires, as_target, as_targets}
use Rattle.flat_unfolding.specs.Formed.{IsFormed, AreFormed, AreSome, IsTargetFormed, AreTargetsFormed, AreSomeParts}
use Rattle.flat_targets.specs.declared.target.Fixed.{Fixed}
use Rattle.flat_targets.specs.declared.target.FixedParts.{FixedParts}
use Rattle.flat_names.specs.Noting.{Noted, all_noted}
use Rattle.flat_targets.specs.Aims.{IsAim, AreAims, AreAllAims}
use Rattle.flat_names.proofs.Options.{none-some, some-same}
use Rattle.flat_targets.proofs.AimedParts.{some-both, are-both, SoFar, so-more, so-all}

-- ---- whether expressions read as targets

pub some-map : {A B : Type 0} (f : A → B) (x : Option A) → is_some (option_map f x) ≡ is_some x
some-map f None = refl
some-map f (Some a) = refl

pub reads-both : (x : ExprTree) (rest : ExprTrees) (b : Bool) → b ≡ is_some (as_target x) → is_some (as_targets (and_trees x rest)) ≡ (b && is_some (as_targets rest))
reads-both x rest b h = some-both and_parts (as_target x) (as_targets rest) ∙ ap (λ c. c && is_some (as_targets rest)) (sym h)

-- ---- what they read as

pub record IsJoin (ts : Option TargetTrees) (t : TargetTree) : Type 0 where
  pub parts : TargetTrees
  pub reads : ts ≡ Some parts
  pub is : t ≡ join_of parts

pub is-join : (ts : Option TargetTrees) (t : TargetTree) → option_map join_of ts ≡ Some t → IsJoin ts t
is-join None t e = none-some t e
is-join (Some ts) t e = record { parts = ts; reads = refl; is = sym (some-same (join_of ts) t e) }

-- the parts so far, where the expressions `rest` are left of those that read as `all`
pub record ReadsSoFar (l : Look) (all : TargetTrees) (rest : ExprTrees) (f g : Noted) (p : FixedParts) : Type 0 where
  pub left : TargetTrees
  pub reads : as_targets rest ≡ Some left
  pub so_far : SoFar l of_wires all left f g p
  pub formed : AreFormed rest

pub reads-more : (l : Look) (all : TargetTrees) (x : ExprTree) (rest : ExprTrees) (f g h : Noted) (p q : FixedParts) (r : Fixed) → ReadsSoFar l all (and_trees x rest) f g p
    → ((v : TargetTree) → as_target x ≡ Some v → IsAim (t.aim l of_wires v) r × (h ≡ all_noted g (t.aim l of_wires v).broken))
    → ((bs : List Aim) (a : Aim) → AreAims bs p → IsAim a r → AreAims (bs ++ a ∷ []) q) → ReadsSoFar l all rest f h q
reads-more l all x rest f g h p q r s aimed add =
    let two = are-both and_parts (as_target x) (as_targets rest) s.left s.reads in
    let before : SoFar l of_wires all (and_parts two.left two.right) f g p = subst (λ ts. SoFar l of_wires all ts f g p) (sym two.is) s.so_far in
    let aim = aimed two.left two.left_is in
    record {
      left = two.right;
      reads = two.right_is;
      so_far = so-more l of_wires all two.right two.left f g h p q before (add before.done (t.aim l of_wires two.left) before.are aim.0) aim.1;
      formed = s.formed.1;
    }

pub reads-all : (l : Look) (all : TargetTrees) (f g : Noted) (p : FixedParts) → ReadsSoFar l all no_trees f g p → AreAllAims l of_wires all f g p
reads-all l all f g p s = so-all l of_wires all f g p (subst (λ ts. SoFar l of_wires all ts f g p) (sym (some-same no_parts s.left s.reads)) s.so_far)

-- ---- what they read as is formed

some-parts : (es : ExprTrees) (ts : TargetTrees) → AreSome es → as_targets es ≡ Some ts → AreSomeParts ts
some-parts no_trees ts h r = absurd h
some-parts (and_trees e rest) ts h r = let two = are-both and_parts (as_target e) (as_targets rest) ts r in subst AreSomeParts two.is tt

mutual
  pub reads-formed : (e : ExprTree) (v : TargetTree) → IsFormed e → as_target e ≡ Some v → IsTargetFormed v
  reads-formed (number n w size) v h r = none-some v r
  reads-formed (name x) v h r = subst IsTargetFormed (some-same (whole x) v r) tt
  reads-formed (index x i) v h r = subst IsTargetFormed (some-same (index_of x i) v r) h
  reads-formed (part x kind i j) v h r = subst IsTargetFormed (some-same (part_of x kind i j) v r) h
  reads-formed (unary op a) v h r = none-some v r
  reads-formed (binary op a b) v h r = none-some v r
  reads-formed (choice c a b) v h r = none-some v r
  reads-formed (join es) v h r = let g = is-join (as_targets es) v r in subst IsTargetFormed (sym g.is) (some-parts es g.parts h.0 g.reads, all-formed es g.parts h.1 g.reads)
  reads-formed (repeat count es) v h r = none-some v r
  reads-formed (paren a) v h r = none-some v r

  all-formed : (es : ExprTrees) (ts : TargetTrees) → AreFormed es → as_targets es ≡ Some ts → AreTargetsFormed ts
  all-formed no_trees ts h r = subst AreTargetsFormed (some-same no_parts ts r) tt
  all-formed (and_trees e rest) ts h r = let two = are-both and_parts (as_target e) (as_targets rest) ts r in
      subst AreTargetsFormed two.is (reads-formed e two.left h.0 two.left_is, all-formed rest two.right h.1 two.right_is)
