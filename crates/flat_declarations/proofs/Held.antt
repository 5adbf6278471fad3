-- What a parameter is, from its range and its value.
use Rattle.std.proofs.Common.{◌≡◌, ℕ, ◌^◌, ◌<◌, ◌≤◌, max, Bool, true, false, cond, ◌&&◌, nat_le, List, [], ◌++◌, Option, Some, None, refl, sym, ap, ap₂, subst, ◌∙◌, append-nil}
use Rattle.std.specs.Prelude.{is_some, is_none, option_map}
use Rattle.cell_graph.specs.Tree.{number}
use Rattle.verilog_ast.specs.declared.Range as written
use Rattle.verilog_reading.specs.SourceTree.{Bounds as Bound, ParamTree, maybe, bounds_of}
use Rattle.flat_meaning.specs.Meaning.{value}
use Rattle.flat_meaning.specs.Full.{nothing}
use Rattle.flat_form.specs.declared.flat.FExpr.{FExpr}
use Rattle.flat_form.specs.View.{expr_of}
use Rattle.flat_form.specs.Sizes.{is_word, kept_of, is_sized}
use Rattle.flat_form.proofs.Sized.{sized_width}
use Rattle.flat_unfolding.specs.Outcome.{Broken, breaks_if}
use Rattle.flat_unfolding.specs.Names as n
use Rattle.flat_unfolding.specs.Names.{Range, span, width_of, is_declared, Look}
use Rattle.flat_unfolding.specs.Constants.{own_value, assigned_value, is_counted}
use Rattle.flat_unfolding.specs.Signs.{is_signed}
use Rattle.flat_unfolding.specs.Expressions.{is_empty, as_constant, read}
use Rattle.flat_unfolding.specs.Parameters as law
use Rattle.flat_unfolding.specs.Parameters.{Overrides, Valued, held, range_read, value_of, sign_rule}
use Rattle.flat_unfolding.proofs.Steps.{none_of_both}
use Rattle.flat_unfolding.proofs.Entries.{range_narrow}
use Rattle.flat_names.specs.declared.scope.Bounds.{Bounds}
use Rattle.flat_names.specs.declared.scope.Param.{Param}
use Rattle.flat_names.specs.declared.resolved.Resolved.{Resolved}
use Rattle.flat_names.specs.Noting.{Noted, all_noted}
use Rattle.flat_names.specs.Looks.{range_of, param_of}
use Rattle.flat_names.specs.Pieces.{IsRead}
use Rattle.flat_names.specs.Signs.{signs_of}
use Rattle.flat_names.specs.declared.signs.Signs.{Signs}
use Rattle.flat_names.proofs.Options.{some-same}
use Rattle.flat_names.proofs.Notes.{then-noted}
use Rattle.flat_declarations.specs.declared.parameter.Override.{Override}
use Rattle.flat_declarations.specs.Declaring.{override_of, IsGivenSized, valued, parameter_rules, parameter_held, IsHeld}
use Rattle.flat_declarations.proofs.Kept.{word-is}

pub held-some : (x : FExpr) (b : Bounds) (o : Option Bounds) (v w : ℕ) (c g : Bool) → o ≡ Some b → is_sized x ≡ true → width_of (option_map range_of o) ≤ 64 → w ≡ width_of (option_map range_of o)
    → (v ≡ number (value nothing (expr_of x) (max w (kept_of x).width)) w) × (v < 2 ^ w)
    → (param_of (record { value = v; width = w; counted = false; signed = false; bounds = o }) ≡ held (option_map range_of o) (expr_of x) c g) × IsHeld (param_of (record { value = v; width = w; counted = false; signed = false; bounds = o }))
held-some x b o v w c g e h l k r = subst Goal (sym e) (go (subst (λ o. width_of (option_map range_of o) ≤ 64) e l) (subst (λ o. w ≡ width_of (option_map range_of o)) e k))
  where
    Goal : Option Bounds → Type 0
    Goal o = (param_of (record { value = v; width = w; counted = false; signed = false; bounds = o }) ≡ held (option_map range_of o) (expr_of x) c g) × IsHeld (param_of (record { value = v; width = w; counted = false; signed = false; bounds = o }))

    made : ℕ → ℕ → n.Param
    made a i = record { value = a; width = i; is_counted = false; is_signed = false; range = Some (range_of b) }

    is : w ≡ span (range_of b) → v ≡ assigned_value (expr_of x) (span (range_of b))
    is k = r.0 ∙ ap (λ i. number (value nothing (expr_of x) (max w i)) w) (sized_width x h) ∙ ap (λ i. assigned_value (expr_of x) i) k

    go : span (range_of b) ≤ 64 → w ≡ span (range_of b)
        → (param_of (record { value = v; width = w; counted = false; signed = false; bounds = Some b }) ≡ held (Some (range_of b)) (expr_of x) c g) × IsHeld (param_of (record { value = v; width = w; counted = false; signed = false; bounds = Some b }))
    go l k = (
      ap₂ (λ (a i : ℕ). let p : n.Param = record { value = a; width = i; is_counted = false; is_signed = false; range = Some (range_of b) } in p) (is k) k,
      record {
        width = subst (λ i. is_word i ≡ true) (sym k) (word-is (Some (range_of b)) l);
        value = r.1;
        range = λ q d. ap span (sym (some-same (range_of b) q d)) ∙ sym k;
      },
    )

-- an override counts only where the parameter isn't local
pub override-local : (b : Bool) (o q : Option Override) (g : Option law.Override) → q ≡ cond b None o → option_map override_of o ≡ g → option_map override_of q ≡ cond b None g
override-local true o q g e h = ap (option_map override_of) e
override-local false o q g e h = ap (option_map override_of) e ∙ h

pub sized-local : (b : Bool) (o q : Option Override) → q ≡ cond b None o → IsGivenSized o → IsGivenSized q
sized-local true o q e h = subst IsGivenSized (sym e) tt
sized-local false o q e h = subst IsGivenSized (sym e) h

-- E307 of a signed value, as it is noted and as it is told
pub sign-same : (o : Option written.Range) (r : Option Bound) (s g : Bool) (m n : ℕ) → r ≡ maybe bounds_of o → (s ≡ true → m ≡ n)
    → breaks_if (is_none o && (s && g) && nat_le (2 ^ 31) m) 307 [] ≡ breaks_if (is_none r && g && s && nat_le (2 ^ 31) n) 307 []
sign-same o r s g m n e h = by-range o ∙ ap (λ b. breaks_if (is_none b && g && s && nat_le (2 ^ 31) n) 307 []) (sym e)
  where
    by-signs : (s g : Bool) → (s ≡ true → m ≡ n) → breaks_if ((s && g) && nat_le (2 ^ 31) m) 307 [] ≡ breaks_if (g && s && nat_le (2 ^ 31) n) 307 []
    by-signs true true h = ap (λ k. breaks_if (nat_le (2 ^ 31) k) 307 []) (h refl)
    by-signs true false h = refl
    by-signs false true h = refl
    by-signs false false h = refl

    by-range : (o : Option written.Range) → breaks_if (is_none o && (s && g) && nat_le (2 ^ 31) m) 307 [] ≡ breaks_if (is_none (maybe bounds_of o) && g && s && nat_le (2 ^ 31) n) 307 []
    by-range None = by-signs s g h
    by-range (Some b) = refl

module _ (l : Look) (given : Overrides) (q : ParamTree) (f0 f1 f2 : Noted) (r : Option Range) (v : Param)
    (e1 : f1 ≡ all_noted f0 (breaks_if (is_declared l.names q.name) 304 q.name)) (e2 : f2 ≡ all_noted f1 (range_read l q.name q.range).broken) (is : r ≡ (range_read l q.name q.range).range) where
  abbrev twice : List Broken
  twice = breaks_if (is_declared l.names q.name) 304 q.name

  abbrev bounds : List Broken
  bounds = (range_read l q.name q.range).broken

  -- where nothing is broken, neither the range nor the value breaks a rule
  unbroken : parameter_rules given l q ≡ [] → (bounds ≡ []) × ((valued given l q).broken ≡ [])
  unbroken e =
      let w = none_of_both (twice ++ bounds) (valued given l q).broken (none_of_both (twice ++ bounds ++ (valued given l q).broken) (sign_rule q.range (valued given l q)) e).0 in
      ((none_of_both twice bounds w.0).1, w.1)

  narrow : parameter_rules given l q ≡ [] → width_of r ≤ 64
  narrow e = subst (λ o. width_of o ≤ 64) (sym is) (range_narrow l q.name q.range (unbroken e).0)

  all-noted : (f3 f4 : Noted) (z : Valued) → valued given l q ≡ z → f3 ≡ all_noted f2 z.broken → f4 ≡ all_noted f3 (sign_rule q.range z) → f4 ≡ all_noted f0 (parameter_rules given l q)
  all-noted f3 f4 z same d g =
      then-noted f0 f3 f4 (twice ++ bounds ++ z.broken) (sign_rule q.range z) (then-noted f0 f2 f3 (twice ++ bounds) z.broken (then-noted f0 f1 f2 twice bounds e1 e2) d) g
      ∙ ap (λ (y : Valued). all_noted f0 (twice ++ bounds ++ y.broken ++ sign_rule q.range y)) (sym same)

  -- a parameter with an override
  pub override-meant : (f3 : Noted) (b : Option written.Range) (o : Override) → q.range ≡ maybe bounds_of b → law.override_of given q ≡ Some (override_of o)
      → f3 ≡ all_noted f2 (breaks_if (is_none b && o.is_signed && nat_le (2 ^ 31) (own_value (expr_of o.value))) 307 [])
      → (width_of r ≤ 64 → (param_of v ≡ held r (expr_of o.value) o.is_counted o.is_signed) × IsHeld (param_of v))
      → (f3 ≡ all_noted f0 (parameter_rules given l q)) × (parameter_rules given l q ≡ [] → (param_of v ≡ parameter_held given l q) × IsHeld (param_of v))
  override-meant f3 b o w e g h =
      let same : valued given l q ≡ value_of l q (Some (override_of o)) = ap (value_of l q) e in (
        all-noted f2 f3 (value_of l q (Some (override_of o))) same refl (g ∙ ap (all_noted f2) (sign-same b q.range true o.is_signed (own_value (expr_of o.value)) (own_value (expr_of o.value)) w (λ k. refl))),
        λ k. let m = h (narrow k) in
            (m.0 ∙ ap (λ i. held i (expr_of o.value) o.is_counted o.is_signed) is ∙ ap (λ (z : Valued). held (range_read l q.name q.range).range z.value z.is_counted z.is_signed) (sym same), m.1),
      )

  -- a parameter of its own value
  pub own-meant : (f3 f4 : Noted) (b : Option written.Range) (x : Resolved) (c : Bool) → q.range ≡ maybe bounds_of b → law.override_of given q ≡ None → IsRead (as_constant (read l q.value)) x
      → f3 ≡ all_noted f2 (as_constant (read l q.value)).broken → is_some x.count ≡ is_counted l.names q.value → x.signs ≡ signs_of l.names q.value → c ≡ is_some x.count
      → f4 ≡ all_noted f3 (breaks_if (is_none b && (x.is_sound && x.signs.is_signed) && nat_le (2 ^ 31) (own_value (expr_of x.expr))) 307 [])
      → (is_sized x.expr ≡ true → width_of r ≤ 64 → (param_of v ≡ held r (expr_of x.expr) c x.signs.is_signed) × IsHeld (param_of v))
      → (f4 ≡ all_noted f0 (parameter_rules given l q)) × (parameter_rules given l q ≡ [] → (param_of v ≡ parameter_held given l q) × IsHeld (param_of v))
  own-meant f3 f4 b x c w e t d i s j g h =
      let same : valued given l q ≡ value_of l q None = ap (value_of l q) e in
      let z = value_of l q None in
      let signed : x.signs.is_signed ≡ is_signed l.names q.value = ap (λ (y : Signs). y.is_signed) s in (
        all-noted f3 f4 z same d (g ∙ ap (all_noted f3) (sign-same b q.range x.is_sound x.signs.is_signed (own_value (expr_of x.expr)) (own_value z.value) w (λ k. ap own_value (t.expr k))
            ∙ ap₂ (λ a k. breaks_if (is_none q.range && a && k && nat_le (2 ^ 31) (own_value z.value)) 307 []) signed t.sound)),
        λ k.
            let none : z.broken ≡ [] = ap (λ (y : Valued). y.broken) (sym same) ∙ (unbroken k).1 in
            let sound : x.is_sound ≡ true = t.sound ∙ ap is_empty none in
            let m = h (t.sized sound) (narrow k) in (
              m.0 ∙ ap (λ i. held i (expr_of x.expr) c x.signs.is_signed) is ∙ ap₂ (λ a n. held (range_read l q.name q.range).range a n x.signs.is_signed) (t.expr sound) (j ∙ i)
                  ∙ ap (held (range_read l q.name q.range).range z.value z.is_counted) signed
                  ∙ ap (λ (y : Valued). held (range_read l q.name q.range).range y.value y.is_counted y.is_signed) (sym same),
              m.1,
            ),
      )
