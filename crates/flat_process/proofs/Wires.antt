-- Continuous assignments and gates, by their parts.
use Rattle.std.proofs.Common.{◌≡◌, ◌≢◌, ℕ, Bool, true, false, cond, not, ◌&&◌, ◌==◌, List, [], ◌∷◌, ◌++◌, map, Option, Some, None, refl, sym, ap, ap₂, subst, ◌∙◌, rules, append_assoc, append-nil, eqb-true, Box, Global}
use Rattle.std.specs.Prelude.{All, is_some, flat_map, option_map, slice_get}
use Rattle.std.specs.List.{list_all}
use Rattle.std.specs.Option.{option_map_or}
use Rattle.std.proofs.lemmas.List.{map-append}
use Rattle.std.proofs.lemmas.List.Elements.{All-tail}
use Rattle.std.proofs.lemmas.Bool.{and_parts}
use Rattle.verilog_ast.specs.declared.Expr.{Expr}
use Rattle.verilog_ast.specs.declared.GateKind.{GateKind}
use Rattle.verilog_ast.specs.declared.BinaryOp.{BinaryOp}
use Rattle.flat_form.specs.declared.flat.FUnaryOp.TheVariants as unary
use Rattle.verilog_reading.specs.ExprTree.{ExprTree, TargetTree, tree_of}
use Rattle.flat_meaning.specs.Flat as f
use Rattle.flat_form.specs.declared.flat.FExpr.{FExpr}
use Rattle.flat_form.specs.declared.flat.FExpr.TheOpen.{FExpr-F}
use Rattle.flat_form.specs.declared.flat.FExpr.TheFolds.{fold-roll-FExpr}
use Rattle.flat_form.specs.declared.flat.FExpr.TheVariants as e
use Rattle.flat_form.specs.declared.flat.FTarget.TheVariants as t
use Rattle.flat_form.specs.declared.flat.FlatAssign.{FlatAssign}
use Rattle.flat_form.specs.View.{unary_of, expr_of, exprs_of, target_of}
use Rattle.flat_form.specs.Sizes.{Kept, all_right, kept_of}
use Rattle.flat_form.proofs.Folds.{target_of-Join}
use Rattle.flat_form.proofs.Sized.{sized_width}
use Rattle.flat_unfolding.specs.Outcome.{Broken, breaks, breaks_if}
use Rattle.flat_unfolding.specs.Names as n
use Rattle.flat_unfolding.specs.Names.{own_at}
use Rattle.flat_unfolding.specs.Expressions.{Term, is_empty, is_sound, read}
use Rattle.flat_unfolding.specs.Targets.{Aim, of_wires, with_piece_rules, wire_aim, pick_rule, picked_rule, first_pick, as_target, driven, driven_at}
use Rattle.flat_unfolding.specs.Wires.{gate_word, input_rules, gate_value}
use Rattle.flat_unfolding.specs.Widths.{width_step, width_of, keeps_sizes, target_keeps_sizes}
use Rattle.flat_unfolding.specs.Formed.{IsFormed}
use Rattle.flat_unfolding.proofs.Steps.{none_of_both, some_is}
use Rattle.flat_names.specs.declared.scope.Look.{Look}
use Rattle.flat_names.specs.declared.design.Entry.{Entry}
use Rattle.flat_names.specs.declared.resolved.Resolved.{Resolved}
use Rattle.flat_targets.specs.declared.target.Fixed.{Fixed}
use Rattle.flat_names.specs.Noting.{Noted, all_noted}
use Rattle.flat_names.specs.Looks.{Seen, seen, shown, Shows}
use Rattle.flat_names.specs.Pieces.{IsRead}
use Rattle.flat_targets.specs.Aims.{IsAim, is_target_sized}
use Rattle.flat_targets.proofs.Aimed.{sized-Join}
use Rattle.flat_names.proofs.Looked.{entry-is}
use Rattle.flat_names.proofs.Notes.{noted-both, then-noted}
use Rattle.flat_process.specs.Assigns.{IsAssign, IsValue, gate_over}
use Rattle.flat_process.proofs.Ended.{all-push}
use Rattle.flat_statements.proofs.Sizes.{both-true, target-sized-keeps}
use Rattle.flat_statements.proofs.Done.{read-expr, read-keeps}

-- ---- what a variable index breaks

own-shown : (o : Option Entry) → option_map_or (λ (w : Seen). w.own) (option_map seen o) [] ≡ option_map_or (λ (x : Entry). x.own) o []
own-shown None = refl
own-shown (Some x) = refl

own-meant : (o : Option n.Entry) → option_map_or (λ (w : Seen). w.own) (option_map shown o) [] ≡ option_map_or (λ (x : n.Entry). x.own) o []
own-meant None = refl
own-meant (Some x) = refl

pub own-is : (k : Look) (l : n.Look) → Shows k l → (s : ℕ) → option_map_or (λ (x : Entry). x.own) (slice_get k.entries.now s) [] ≡ own_at l.entries s
own-is k l h s = sym (own-shown (slice_get k.entries.now s)) ∙ ap (λ z. option_map_or (λ (w : Seen). w.own) z []) (entry-is k l h s) ∙ own-meant (slice_get l.entries s)

-- what the first variable index breaks, once it is known
pub picked-some : (l : n.Look) (t : f.Target) (s : ℕ) → Some s ≡ first_pick t → pick_rule l t ≡ breaks 313 (own_at l.entries s)
picked-some l t s e = ap (picked_rule l) (sym e)

-- ---- assignments

-- an assignment of what was read
pub made-assign : (a : Aim) (w : Fixed) (v : Term) (r : Resolved) → IsAim a w → IsRead v r → IsAssign a.target v.expr v.broken (record { target = w.target; value = r.expr })
made-assign a w v r h i = record {
  target = λ e. h.target;
  value = λ e. read-expr v r i e;
  sizes = λ e. both-true (target_keeps_sizes w.target) (keeps_sizes r.expr) (target-sized-keeps w.target h.sized) (read-keeps v r i e);
}

-- the same where rules before it may be broken too
pub assign-behind : (t : f.Target) (v : f.Expr) (us bs : List Broken) (x : FlatAssign) → IsAssign t v bs x → IsAssign t v (us ++ bs) x
assign-behind t v us bs x h = record {
  target = λ e. h.target (none_of_both us bs e).1;
  value = λ e. h.value (none_of_both us bs e).1;
  sizes = λ e. h.sizes (none_of_both us bs e).1;
}

-- a wire's target with what its variable index breaks
pub wire-is : (l : n.Look) (t : TargetTree) (w : Fixed) → IsAim (with_piece_rules l of_wires t) w → IsAim (wire_aim l t) w
wire-is l t w h = record { sound = h.sound; width = h.width; target = h.target; sized = h.sized }

pub wire-notes : (l : n.Look) (t : TargetTree) (w : Fixed) (a b g : Noted) → IsAim (with_piece_rules l of_wires t) w → a ≡ all_noted g (with_piece_rules l of_wires t).broken → b ≡ all_noted a (pick_rule l (target_of w.target)) → b ≡ all_noted g (wire_aim l t).broken
wire-notes l t w a b g h i j =
    j ∙ ap₂ (λ x y. all_noted x (pick_rule l y)) i h.target ∙ sym (noted-both g (with_piece_rules l of_wires t).broken (pick_rule l (with_piece_rules l of_wires t).target))

-- a wire's assignment, and all that it breaks
pub wire-gives : (l : n.Look) (t : TargetTree) (v : Term) (w : Fixed) (x : FlatAssign) (g a b z : Noted) → IsAim (with_piece_rules l of_wires t) w → a ≡ all_noted g (with_piece_rules l of_wires t).broken → b ≡ all_noted a (pick_rule l (target_of w.target))
    → IsAssign (with_piece_rules l of_wires t).target v.expr v.broken x → z ≡ all_noted b v.broken → IsAssign (wire_aim l t).target v.expr ((wire_aim l t).broken ++ v.broken) x × (z ≡ all_noted g ((wire_aim l t).broken ++ v.broken))
wire-gives l t v w x g a b z h i j is noted =
    (assign-behind (wire_aim l t).target v.expr (wire_aim l t).broken v.broken x is, then-noted g b z (wire_aim l t).broken v.broken (wire-notes l t w a b g h i j) noted)

-- ---- what is driven

sound-empty : (t : Term) → is_sound t ≡ true → t.broken ≡ []
sound-empty t e = go t.broken e
  where
    go : (bs : List Broken) → is_empty bs ≡ true → bs ≡ []
    go [] q = refl
    go (b ∷ bs) q = absurd (search (rules, q))

cond-some : (b : Bool) (k : ℕ) → b ≡ is_some (cond b (Some k) None)
cond-some true k = refl
cond-some false k = refl

cond-is : (b : Bool) (k m : ℕ) → cond b (Some k) None ≡ Some m → (b ≡ true) × (k ≡ m)
cond-is true k m e = (refl, some_is k m e)
cond-is false k m e = absurd (search (rules, e))

-- what reads as no target
pub driven-nowhere : (l : n.Look) (v : Term) (r : Resolved) (w : Fixed) → IsRead v r → w.target ≡ t.Join [] → w.width ≡ (kept_of r.expr).width → w.is_sound ≡ r.is_sound → IsAim (driven_at l None v) w
driven-nowhere l v r w h e i s = record {
  sound = s ∙ h.sound ∙ cond-some (is_sound v) (f.size v.expr);
  width = λ m q. let p = cond-is (is_sound v) (f.size v.expr) m q in
      i ∙ sized_width r.expr (h.sized (h.sound ∙ p.0)) ∙ ap f.size (read-expr v r h (sound-empty v p.0)) ∙ p.1;
  target = ap target_of e ∙ target_of-Join [];
  sized = ap is_target_sized e ∙ sized-Join [];
}

-- what is driven reads as a target
pub driven-target : (l : n.Look) (e : ExprTree) (t : TargetTree) (w : Fixed) (g a b : Noted) → as_target e ≡ Some t → IsAim (with_piece_rules l of_wires t) w → a ≡ all_noted g (with_piece_rules l of_wires t).broken
    → b ≡ all_noted a (pick_rule l (target_of w.target)) → IsAim (driven l e) w × (b ≡ all_noted g (driven l e).broken)
driven-target l e t w g a b i h j k =
    subst (λ o. IsAim (driven_at l o (read l e)) w × (b ≡ all_noted g (driven_at l o (read l e)).broken)) (sym i) (wire-is l t w h, wire-notes l t w a b g h j k)

-- it reads as none
pub driven-none : (l : n.Look) (e : ExprTree) (r : Resolved) (w : Fixed) (g a b : Noted) → as_target e ≡ None → IsRead (read l e) r → a ≡ all_noted g (read l e).broken → b ≡ all_noted a (breaks 313 [])
    → w.target ≡ t.Join [] → w.width ≡ (kept_of r.expr).width → w.is_sound ≡ r.is_sound → IsAim (driven l e) w × (b ≡ all_noted g (driven l e).broken)
driven-none l e r w g a b i h j k target width sound =
    subst (λ o. IsAim (driven_at l o (read l e)) w × (b ≡ all_noted g (driven_at l o (read l e)).broken)) (sym i)
    (driven-nowhere l (read l e) r w h target width sound, then-noted g a b (read l e).broken (breaks 313 []) j k)

pub some-of : {A : Type 0} (o : Option A) → is_some o ≡ true → (a : A) × (o ≡ Some a)
some-of None e = absurd (search (rules, e))
some-of (Some a) e = (a, refl)

pub none-of : {A : Type 0} (o : Option A) → is_some o ≡ false → o ≡ None
none-of None e = refl
none-of (Some a) e = absurd (search (rules, e))

-- ---- gates

-- an input's own test is the definition's
pub input-test : (v : Term) (r : Resolved) → IsRead v r → (r.is_sound && not ((kept_of r.expr).width == 1)) ≡ (is_sound v && not (f.size v.expr == 1))
input-test v r h = ap (λ b. b && not ((kept_of r.expr).width == 1)) h.sound ∙ go (is_sound v) refl
  where
    go : (b : Bool) → is_sound v ≡ b → (b && not ((kept_of r.expr).width == 1)) ≡ (b && not (f.size v.expr == 1))
    go true e = ap (λ m. not (m == 1)) (sized_width r.expr (h.sized (h.sound ∙ e)) ∙ ap f.size (read-expr v r h (sound-empty v e)))
    go false e = refl

abbrev terms : n.Look → List Expr → List Term
terms l xs = map (read l) (map tree_of xs)

abbrev rules_of : GateKind → List Term → List Broken
rules_of kind vs = flat_map (input_rules kind) vs

module _ (l : n.Look) (kind : GateKind) where
  -- inputs so far
  pub record InputsSoFar (all rest : List Expr) (xs : List FExpr) (before now : Noted) : Type 0 where
    pub formed : All IsFormed (map tree_of rest)
    pub clean : rules_of kind (terms l all) ≡ [] → rules_of kind (terms l rest) ≡ []
    pub values : rules_of kind (terms l all) ≡ [] → map expr_of xs ++ map (λ (v : Term). v.expr) (terms l rest) ≡ map (λ (v : Term). v.expr) (terms l all)
    pub sizes : rules_of kind (terms l all) ≡ [] → list_all keeps_sizes xs ≡ true
    pub noted : all_noted now (rules_of kind (terms l rest)) ≡ all_noted before (rules_of kind (terms l all))

  exprs-push : (xs : List FExpr) (x : FExpr) (ys : List f.Expr) → map expr_of (xs ++ x ∷ []) ++ ys ≡ map expr_of xs ++ (expr_of x ∷ ys)
  exprs-push xs x ys = ap (λ zs. zs ++ ys) (map-append expr_of xs (x ∷ [])) ∙ append_assoc (map expr_of xs) (expr_of x ∷ []) ys

  pub inputs-step : (all rest left : List Expr) (x : Expr) (xs : List FExpr) (r : Resolved) (before now next : Noted) → InputsSoFar all left xs before now → left ≡ x ∷ rest → IsRead (read l (tree_of x)) r
      → next ≡ all_noted now (input_rules kind (read l (tree_of x))) → InputsSoFar all rest (xs ++ r.expr ∷ []) before next
  inputs-step all rest left x xs r before now next h e d q =
      let g = subst (λ ys. InputsSoFar all ys xs before now) e h in let v = read l (tree_of x) in
      let here : rules_of kind (terms l all) ≡ [] → (input_rules kind v ≡ []) × (rules_of kind (terms l rest) ≡ []) = λ c. none_of_both (input_rules kind v) (rules_of kind (terms l rest)) (g.clean c) in
      let own : rules_of kind (terms l all) ≡ [] → v.broken ≡ [] = λ c. (none_of_both v.broken _ (here c).0).0 in record {
        formed = All-tail IsFormed (tree_of x) (map tree_of rest) g.formed;
        clean = λ c. (here c).1;
        values = λ c. exprs-push xs r.expr (map (λ (w : Term). w.expr) (terms l rest)) ∙ ap (λ y. map expr_of xs ++ (y ∷ map (λ (w : Term). w.expr) (terms l rest))) (read-expr v r d (own c)) ∙ g.values c;
        sizes = λ c. all-push keeps_sizes xs r.expr (g.sizes c) (read-keeps v r d (own c));
        noted = ap (λ y. all_noted y (rules_of kind (terms l rest))) q ∙ sym (noted-both now (input_rules kind v) (rules_of kind (terms l rest))) ∙ g.noted;
      }

  pub inputs-end : (all : List Expr) (xs : List FExpr) (before now : Noted) (r : FExpr) → InputsSoFar all [] xs before now → expr_of r ≡ gate_over kind (exprs_of (map expr_of xs)) → (list_all keeps_sizes xs ≡ true → keeps_sizes r ≡ true)
      → IsValue (gate_value kind (terms l all)) (rules_of kind (terms l all)) r × (now ≡ all_noted before (rules_of kind (terms l all)))
  inputs-end all xs before now r h e s = (
    record {
      value = λ c. e ∙ ap (λ ys. gate_over kind (exprs_of ys)) (sym (append-nil (map expr_of xs)) ∙ h.values c);
      sizes = λ c. s (h.sizes c);
    },
    h.noted,
  )

-- ---- widths of gates

all-right : (xs : List FExpr) → list_all keeps_sizes xs ≡ true → all_right (map width_of xs) ≡ true
all-right [] h = refl
all-right (x ∷ xs) h = let p = and_parts (keeps_sizes x) (list_all keeps_sizes xs) h in both-true (keeps_sizes x) (all_right (map width_of xs)) p.0 (all-right xs p.1)

width-Gate : (op : BinaryOp) (inputs : List FExpr) → width_of (e.Gate op inputs) ≡ record { width = 1; right = all_right (map width_of inputs) }
width-Gate op inputs = ap width_of (sym (e.rolls-Gate op inputs)) ∙ fold-roll-FExpr Kept width_step (FExpr-F.Gate op inputs)

width-Unary : (a : Box FExpr Global) → width_of (e.Unary unary.Not a 1) ≡ record { width = 1; right = (1 == f.unary_size (unary_of unary.Not) (width_of a.value).width) && (width_of a.value).right }
width-Unary a = ap width_of (sym (e.rolls-Unary unary.Not a 1)) ∙ fold-roll-FExpr Kept width_step (FExpr-F.Unary unary.Not a 1)

-- a gate over what keeps sizes keeps them
pub gate-keeps : (op : BinaryOp) (inputs : List FExpr) → list_all keeps_sizes inputs ≡ true → keeps_sizes (e.Gate op inputs) ≡ true
gate-keeps op inputs h = ap (λ (k : Kept). k.right) (width-Gate op inputs) ∙ all-right inputs h

-- the same with a complement on top
pub complement-keeps : (op : BinaryOp) (inputs : List FExpr) (a : Box FExpr Global) → a.value ≡ e.Gate op inputs → list_all keeps_sizes inputs ≡ true → keeps_sizes (e.Unary unary.Not a 1) ≡ true
complement-keeps op inputs a i h = ap (λ (k : Kept). k.right) (width-Unary a)
    ∙ ap (λ (k : Kept). (1 == f.unary_size (unary_of unary.Not) k.width) && k.right) (ap width_of i ∙ width-Gate op inputs) ∙ all-right inputs h

-- whether a sound width is other than one bit
pub wide-is : (b : Bool) (w : ℕ) → b ≡ true → w ≢ 1 → (b && not (w == 1)) ≡ true
wide-is b w e h = ap (λ c. c && not (w == 1)) e ∙ go (w == 1) refl
  where
    go : (c : Bool) → (w == 1) ≡ c → not c ≡ true
    go true q = absurd (h (eqb-true w 1 q))
    go false q = refl

pub narrow-is : (b : Bool) (w : ℕ) → w ≡ 1 → (b && not (w == 1)) ≡ false
narrow-is true w e = ap (λ m. not (m == 1)) e
narrow-is false w e = refl

-- an input, with what it breaks
pub input-noted : (kind : GateKind) (v : Term) (r : Resolved) (g a b : Noted) (t : Bool) → IsRead v r → a ≡ all_noted g v.broken → (r.is_sound && not ((kept_of r.expr).width == 1)) ≡ t → b ≡ all_noted a (breaks_if t 306 (gate_word kind))
    → b ≡ all_noted g (input_rules kind v)
input-noted kind v r g a b t h i e j =
    then-noted g a b v.broken _ i (j ∙ ap (λ x. all_noted a (breaks_if x 306 (gate_word kind))) (sym e ∙ input-test v r h))

-- a gate's assignment, and all that it breaks
pub made-gate : (kind : GateKind) (a : Aim) (w : Fixed) (e : f.Expr) (os bs : List Broken) (x : FExpr) → IsAim a w → IsValue e bs x → IsAssign a.target e (a.broken ++ os ++ bs) (record { target = w.target; value = x })
made-gate kind a w e os bs x h i = record {
  target = λ c. h.target;
  value = λ c. i.value (none_of_both (a.broken ++ os) bs c).1;
  sizes = λ c. both-true (target_keeps_sizes w.target) (keeps_sizes x) (target-sized-keeps w.target h.sized) (i.sizes (none_of_both (a.broken ++ os) bs c).1);
}

four : {A : Type 0} (x a b c : List A) → x ++ a ++ b ++ c ≡ x ++ (a ++ b ++ c)
four x a b c = simp append_assoc

-- it stands behind the rule of its terminals
pub made-behind : (t : f.Target) (v : f.Expr) (cs ds os bs : List Broken) (x : FlatAssign) (g a b : Noted) → a ≡ all_noted g cs → b ≡ all_noted a (ds ++ os ++ bs) → IsAssign t v (ds ++ os ++ bs) x
    → IsAssign t v (cs ++ ds ++ os ++ bs) x × (b ≡ all_noted g (cs ++ ds ++ os ++ bs))
made-behind t v cs ds os bs x g a b i j is =
    let same = sym (four cs ds os bs) in
    (subst (λ (all : List Broken). IsAssign t v all x) same (assign-behind t v cs (ds ++ os ++ bs) x is), then-noted g a b cs (ds ++ os ++ bs) i j ∙ ap (all_noted g) same)
