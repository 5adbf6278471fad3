-- What a step makes of a module's own stage, where it is taken behind a design; assignments, gates and start values.
use Rattle.std.proofs.Common.{◌≡◌, ℕ, ◌+◌, ◌==◌, Bool, true, false, cond, not, ◌&&◌, ◌||◌, List, [], ◌∷◌, ◌++◌, length, map, Option, Some, None, refl, sym, ap, ap₂, subst, ◌∙◌, rules, append_assoc}
use Rattle.std.specs.Prelude.{slice_get, flat_map, option_map}
use Rattle.std.specs.Option.{option_map_or}
use Rattle.std.proofs.lemmas.List.{map_push}
use Rattle.std.proofs.lemmas.List.Folds.{list_any-append}
use Rattle.cdc_base.specs.declared.fault.Place.{Place}
use Rattle.verilog_ast.specs.declared.DeclKind.{DeclKind}
use Rattle.verilog_ast.specs.declared.DeclKind.TheVariants as kinds
use Rattle.verilog_ast.specs.declared.GateKind.{GateKind}
use Rattle.verilog_reading.specs.ExprTree.{ExprTree, TargetTree, whole, index_of, part_of, join_of}
use Rattle.verilog_reading.specs.StmtTree.{StmtTree, null, set, when, either, switch, switch_else, block, StmtTrees, no_rows, and_rows}
use Rattle.flat_meaning.specs.Flat.{complement, Expr, Unary, Gate, Target, Whole, Part, Pick, Group}
use Rattle.flat_unfolding.specs.Outcome.{Text, Broken, breaks, breaks_if, Outcome, good, then_, each, Order, by_number, judged}
use Rattle.flat_unfolding.specs.Names.{Meaning, a_param, a_signal, a_memory, no_value, Entry, Look, meaning, width_at}
use Rattle.flat_unfolding.specs.Constants.{assigned_value}
use Rattle.flat_unfolding.specs.Expressions.{Term, is_sound, joined, read}
use Rattle.flat_unfolding.specs.Targets.{Aim, of_registers, aim, wire_aim, driven, first_name}
use Rattle.flat_unfolding.specs.Statements.{neither, Done, done}
use Rattle.flat_unfolding.specs.Wires.{assign_item, gate_word, gate_op, is_inverted, gate_value, output_rule, input_rules, count_rule, gate_item}
use Rattle.flat_unfolding.specs.Starts.{Starts, starts_with, twice_rule, start, names_register, initial_row, initial_rows, initial_starts, with_starts, so_far, initial_item, start_of, declared_start}
use Rattle.flat_unfolding.specs.Design.{Start, Design, Stage, look_of, with_design, assigned}
use Rattle.flat_unfolding.specs.Unfolding.{value_item}
use Rattle.flat_unfolding.proofs.Steps.{good_is, good_then, judged_is, none_of_both}
use Rattle.flat_unfolding.proofs.Fit.{true_right}
use Rattle.instance_laws.specs.Moved.{moved_expr, moved_exprs, moved_target, moved_assign, moved_start, moved_entry}
use Rattle.instance_laws.specs.Laws.{stage_behind}
use Rattle.instance_laws.proofs.Looks.{moved_if, at_moved, width_moved, told_moved}
use Rattle.instance_laws.proofs.Terms.{moved_term, moved_terms, size_moved, assigned_moved, joined_moved, read_moved, known}
use Rattle.instance_laws.proofs.Bits.{same_signal}
use Rattle.instance_laws.proofs.Aims.{moved_aim, aim_moved, wire_moved, driven_moved, any_mapped}
use Rattle.instance_laws.proofs.Stmts.{done_moved}

-- one more behind those before
pub one_more : {A : Type 0} (f : A → A) (bs cs : List A) (y : A) → (bs ++ map f cs) ++ (f y ∷ []) ≡ bs ++ map f (cs ++ (y ∷ []))
one_more f bs cs y = append_assoc bs (map f cs) (f y ∷ []) ∙ ap (λ zs. bs ++ zs) (sym (map_push f cs y))

module _ (prefix : Text) (b : Design) where
  abbrev k : ℕ
  k = length b.entries

  abbrev pub over : Stage → Stage
  over s = stage_behind prefix b s

  -- a step of the module's own gives a stage of which something holds, and the step that was taken gives that stage behind the design
  pub record Follows (P : Stage → Type 0) (o : Outcome Stage) (t : Stage) : Type 0 where
    pub own : Stage
    pub is : o ≡ good own
    pub over_it : t ≡ over own
    pub holds : P own

  module _ (P : Stage → Type 0) where
    pub good_follows : (s t : Stage) → P s → good (over s) ≡ good t → Follows P (good s) t
    good_follows s t h e = record { own = s; is = refl; over_it = sym (good_is (over s) t e); holds = h }

    pub judged_follows : (order : Order) (p : Place) (bs cs : List Broken) (a : Stage) (c t : Stage) → (bs ≡ [] → cs ≡ []) → (bs ≡ [] → c ≡ over a) → P a
        → judged order p bs c ≡ good t → Follows P (judged order p cs a) t
    judged_follows order p bs cs a c t h j q e =
        let i = judged_is order p bs c t e in
        record { own = a; is = ap (λ ds. judged order p ds a) (h i.0); over_it = sym i.1 ∙ j i.0; holds = q }

    -- the same rules are broken
    pub same_follows : (order : Order) (p : Place) (bs cs : List Broken) (a : Stage) (c t : Stage) → bs ≡ cs → c ≡ over a → P a → judged order p bs c ≡ good t
        → Follows P (judged order p cs a) t
    same_follows order p bs cs a c t h j = judged_follows order p bs cs a c t (λ i. sym h ∙ i) (λ i. j)

    pub then_follows : {A : Type 0} (o : Outcome A) (f g : A → Outcome Stage) (t : Stage) → ((a : A) → o ≡ good a → f a ≡ good t → Follows P (g a) t) → then_ o f ≡ good t
        → Follows P (then_ o g) t
    then_follows o f g t h e = let i = good_then o f t e in let r = h i.0 i.1 i.2 in
        record { own = r.own; is = ap (λ x. then_ x g) i.1 ∙ r.is; over_it = r.over_it; holds = r.holds }

    -- a step that moves, and one behind it
    pub bind_follows : (Q : Stage → Type 0) (o c : Outcome Stage) (f g : Stage → Outcome Stage) (t : Stage) → ((u : Stage) → o ≡ good u → Follows Q c u)
        → ((u : Stage) → c ≡ good u → Q u → f (over u) ≡ good t → Follows P (g u) t) → then_ o f ≡ good t → Follows P (then_ c g) t
    bind_follows Q o c f g t h j e =
        let i = good_then o f t e in let a = h i.0 i.1 in
        let r = j a.own a.is a.holds (subst (λ u. f u ≡ good t) a.over_it i.2) in
        record { own = r.own; is = ap (λ x. then_ x g) a.is ∙ r.is; over_it = r.over_it; holds = r.holds }

    -- one step after another
    pub each_follows : {A : Type 0} (f g : Stage → A → Outcome Stage) → ((s : Stage) (a : A) (t : Stage) → P s → f (over s) a ≡ good t → Follows P (g s a) t)
        → (s : Stage) (xs : List A) (t : Stage) → P s → each f (over s) xs ≡ good t → Follows P (each g s xs) t
    each_follows f g h s [] t p e = good_follows s t p e
    each_follows f g h s (x ∷ xs) t p e =
        let i = good_then (f (over s) x) (λ u. each f u xs) t e in
        let a = h s x i.0 p i.1 in
        let r = each_follows f g h a.own xs t a.holds (subst (λ u. each f u xs ≡ good t) a.over_it i.2) in
        record { own = r.own; is = ap (λ o. then_ o (λ u. each g u xs)) a.is ∙ r.is; over_it = r.over_it; holds = r.holds }

  assigned_over : (s : Stage) (t : Target) (e : Expr) → with_design (over s) (assigned (over s).design (moved_target k t) (moved_expr k e))
      ≡ over (with_design s (assigned s.design t e))
  assigned_over s t e = ap (λ xs. with_design (over s) (record (over s).design { assigns = xs })) (one_more (moved_assign k) b.assigns s.design.assigns (t, e))

  -- what stays where a step changes no entry, no name and no pin
  abbrev pub Stays : (Stage → Type 0) → Type 0
  Stays P = (s : Stage) (d : Design) → s.design.pins ≡ d.pins → s.design.entries ≡ d.entries → P s → P (with_design s d)

  module _ (P : Stage → Type 0) (stays : Stays P) (s : Stage) (h : P s) where
    abbrev look : Look
    look = look_of s

    abbrev there : Look
    there = look_of (over s)

    -- ---- assignments and gates

    assign_over : (a c : Aim) (v w : Term) → c ≡ moved_aim k a → w ≡ moved_term k v
        → with_design (over s) (assigned (over s).design c.target w.expr) ≡ over (with_design s (assigned s.design a.target v.expr))
    assign_over a c v w i j = ap₂ (λ (x : Aim) (y : Term). with_design (over s) (assigned (over s).design x.target y.expr)) i j ∙ assigned_over s a.target v.expr

    pub assign_follows : (p : Place) (x : TargetTree) (e : ExprTree) (t : Stage) → assign_item (over s) p x e ≡ good t → Follows P (assign_item s p x e) t
    assign_follows p x e t =
        let a = wire_moved prefix b.entries look x in let v = read_moved prefix b.entries look e in
        same_follows P by_number p _ _ (with_design s (assigned s.design (wire_aim look x).target (read look e).expr)) _ t
        (ap₂ (λ (y : Aim) (z : Term). y.broken ++ z.broken) a v) (assign_over (wire_aim look x) (wire_aim there x) (read look e) (read there e) a v)
        (stays s (assigned s.design (wire_aim look x).target (read look e).expr) refl refl h)

    inputs_moved : (es : List ExprTree) → map (read there) es ≡ moved_terms k (map (read look) es)
    inputs_moved [] = refl
    inputs_moved (e ∷ es) = ap₂ (λ v vs. v ∷ vs) (read_moved prefix b.entries look e) (inputs_moved es)

    value_moved : (kind : GateKind) (vs : List Term) → gate_value kind (moved_terms k vs) ≡ moved_expr k (gate_value kind vs)
    value_moved kind vs = ap (λ es. cond (is_inverted kind) (Unary complement (Gate (gate_op kind) es)) (Gate (gate_op kind) es)) (joined_moved k vs) ∙ go (is_inverted kind)
      where
        go : (i : Bool) → cond i (Unary complement (Gate (gate_op kind) (moved_exprs k (joined vs)))) (Gate (gate_op kind) (moved_exprs k (joined vs)))
            ≡ moved_expr k (cond i (Unary complement (Gate (gate_op kind) (joined vs))) (Gate (gate_op kind) (joined vs)))
        go true = refl
        go false = refl

    rules_moved : (kind : GateKind) (vs : List Term) → flat_map (input_rules kind) (moved_terms k vs) ≡ flat_map (input_rules kind) vs
    rules_moved kind [] = refl
    rules_moved kind (v ∷ vs) = ap₂ (λ n bs. (v.broken ++ breaks_if (is_sound v && not (n == 1)) 306 (gate_word kind)) ++ bs) (size_moved k v.expr) (rules_moved kind vs)

    pub gate_follows : (p : Place) (kind : GateKind) (es : List ExprTree) (t : Stage) → gate_item (over s) p kind es ≡ good t → Follows P (gate_item s p kind es) t
    gate_follows p kind [] t = same_follows P by_number p _ _ s (over s) t refl refl h
    gate_follows p kind (x ∷ es) t =
        let a = driven_moved prefix b.entries look x in let vs = map (read look) es in
        same_follows P by_number p _ _ (with_design s (assigned s.design (driven look x).target (gate_value kind vs))) _ t
        (ap₂ (λ (y : Aim) ws. count_rule kind (length (x ∷ es)) ++ y.broken ++ output_rule kind y.bits ++ flat_map (input_rules kind) ws) a (inputs_moved es)
        ∙ ap (λ bs. count_rule kind (length (x ∷ es)) ++ (driven look x).broken ++ output_rule kind (driven look x).bits ++ bs) (rules_moved kind vs))
        (ap₂ (λ (y : Aim) v. with_design (over s) (assigned (over s).design y.target v)) a (ap (gate_value kind) (inputs_moved es) ∙ value_moved kind vs)
        ∙ assigned_over s (driven look x).target (gate_value kind vs))
        (stays s (assigned s.design (driven look x).target (gate_value kind vs)) refl refl h)

    -- ---- start values

    -- the start values so far, and those of the module alone
    record AreStarts (a c : Starts) : Type 0 where
      pub starts : a.starts ≡ b.starts ++ map (moved_start k) c.starts
      pub rules : a.broken ≡ [] → c.broken ≡ []

    also_broken : (a c : Starts) (bs cs : List Broken) → (bs ≡ [] → cs ≡ []) → AreStarts a c
        → AreStarts (record a { broken = a.broken ++ bs }) (record c { broken = c.broken ++ cs })
    also_broken a c bs cs i j = record { starts = j.starts; rules = λ e. let p = none_of_both a.broken bs e in ap₂ (λ x y. x ++ y) (j.rules p.0) (i p.1) }

    -- E309
    abbrev at_entry : Option Entry → List Broken
    at_entry None = []
    at_entry (Some e) = record { number = 309; name = e.printed; place = Some e.place } ∷ []

    twice : (c : List Start) (n : ℕ) → twice_rule there.entries (b.starts ++ map (moved_start k) c) (k + n) ≡ [] → twice_rule look.entries c n ≡ []
    twice c n = go (starts_with c n) refl (slice_get look.entries n) refl
      where
        begins : starts_with c n ≡ true → starts_with (b.starts ++ map (moved_start k) c) (k + n) ≡ true
        begins e = list_any-append (λ (a : Start). a.sig == k + n) b.starts (map (moved_start k) c)
            ∙ true_right (starts_with b.starts (k + n)) (starts_with (map (moved_start k) c) (k + n))
            (any_mapped (λ (a : Start). a.sig == k + n) (moved_start k) (λ (a : Start). a.sig == n) (λ a. same_signal k a.sig n) c ∙ e)

        go : (q : Bool) → starts_with c n ≡ q → (o : Option Entry) → slice_get look.entries n ≡ o
            → cond (starts_with (b.starts ++ map (moved_start k) c) (k + n)) (at_entry (slice_get there.entries (k + n))) []
            ≡ [] → cond (starts_with c n) (at_entry (slice_get look.entries n)) [] ≡ []
        go false i o j r = ap (λ q. cond q (at_entry (slice_get look.entries n)) []) i
        go true i None j r = ap₂ (λ q o. cond q (at_entry o) []) i j
        go true i (Some e) j r =
            let x = ap₂ (λ q o. cond q (at_entry o) []) (begins i) (at_moved prefix b.entries look.entries n ∙ ap (option_map (moved_entry prefix)) j) in
            absurd (search (rules, sym x ∙ r))

    start_moved : (x : Text) (n : ℕ) (v w : Term) (a c : Starts) → w ≡ moved_term k v → AreStarts a c → AreStarts (start there x (k + n) w a) (start look x n v c)
    start_moved x n v w a c i j = record {
      starts =
          ap₂ (λ (zs : List Start) m. zs ++ (record { sig = k + n; value = m } ∷ [])) j.starts
          (ap₂ (λ (y : Term) z. assigned_value y.expr z) i (width_moved prefix b.entries look.entries n) ∙ assigned_moved k v.expr (width_at look.entries n))
          ∙ one_more (moved_start k) b.starts c.starts (record { sig = n; value = assigned_value v.expr (width_at look.entries n) });
      rules = λ e.
          let p = none_of_both _ (twice_rule there.entries a.starts (k + n)) e in
          let q = none_of_both _ (breaks_if (not w.is_constant) 313 x) p.0 in
          let r = none_of_both a.broken w.broken q.0 in
          ap₂ (λ xs ys. xs ++ ys)
          (ap₂ (λ xs ys. xs ++ ys) (ap₂ (λ xs ys. xs ++ ys) (j.rules r.0) (sym (ap (λ (y : Term). y.broken) i) ∙ r.1))
          (sym (ap (λ (y : Term). breaks_if (not y.is_constant) 313 x) i) ∙ q.1))
          (twice c.starts n (sym (ap (λ zs. twice_rule there.entries zs (k + n)) j.starts) ∙ p.1));
    }

    -- what is assigned in `initial`
    abbrev row_at : Look → Text → Starts → Term → Target → Starts
    row_at l x c v (Whole n) = cond (option_map_or (λ (r : Entry). r.is_reg) (slice_get l.entries n) false) (start l x n v c) (record c { broken = c.broken ++ v.broken })
    row_at l x c v g = record c { broken = c.broken ++ v.broken }

    row_at_moved : (x : Text) (v w : Term) → w ≡ moved_term k v → (g : Target) (a c : Starts) → AreStarts a c
        → AreStarts (row_at there x a w (moved_target k g)) (row_at look x c v g)
    row_at_moved x v w i g a c h = go g
      where
        plain : AreStarts (record a { broken = a.broken ++ w.broken }) (record c { broken = c.broken ++ v.broken })
        plain = also_broken a c w.broken v.broken (λ e. sym (ap (λ (y : Term). y.broken) i) ∙ e) h

        whole_at : (n : ℕ) (p : Bool) → AreStarts (cond p (start there x (k + n) w a) (record a { broken = a.broken ++ w.broken }))
            (cond p (start look x n v c) (record c { broken = c.broken ++ v.broken }))
        whole_at n true = start_moved x n v w a c i h
        whole_at n false = plain

        go : (g : Target) → AreStarts (row_at there x a w (moved_target k g)) (row_at look x c v g)
        go (Whole n) =
            rw (told_moved prefix b.entries look.entries n (λ (r : Entry). r.is_reg) false (λ e. refl))
            (whole_at n (option_map_or (λ (r : Entry). r.is_reg) (slice_get look.entries n) false))
        go (Part n at w) = plain
        go (Pick n e) = plain
        go (Group ts) = plain

    abbrev is_whole : Option Meaning → Bool
    is_whole (Some (a_memory m)) = false
    is_whole m = true

    abbrev is_word_at : Bool → Option Meaning → Bool
    is_word_at c (Some (a_memory m)) = c
    is_word_at c m = false

    names_moved : (x : TargetTree) → names_register there x ≡ names_register look x
    names_moved (whole x) = ap is_whole (known prefix b.entries look x) ∙ go (meaning look x)
      where
        go : (o : Option Meaning) → is_whole (moved_if k o) ≡ is_whole o
        go None = refl
        go (Some (a_param p)) = refl
        go (Some (a_signal n)) = refl
        go (Some (a_memory m)) = refl
        go (Some no_value) = refl
    names_moved (index_of x i) = ap₂ is_word_at (ap (λ (v : Term). v.is_constant) (read_moved prefix b.entries look i)) (known prefix b.entries look x) ∙ go (meaning look x)
      where
        go : (o : Option Meaning) → is_word_at (read look i).is_constant (moved_if k o) ≡ is_word_at (read look i).is_constant o
        go None = refl
        go (Some (a_param p)) = refl
        go (Some (a_signal n)) = refl
        go (Some (a_memory m)) = refl
        go (Some no_value) = refl
    names_moved (part_of x kind l r) = refl
    names_moved (join_of parts) = refl

    other_moved : (x : StmtTree) (a c : Starts) → AreStarts a c
        → AreStarts (record a { broken = a.broken ++ breaks 313 [] ++ (done there neither x).broken })
        (record c { broken = c.broken ++ breaks 313 [] ++ (done look neither x).broken })
    other_moved x a c h =
        also_broken (record a { broken = a.broken ++ breaks 313 [] }) (record c { broken = c.broken ++ breaks 313 [] }) _ _
        (λ e. sym (ap (λ (d : Done). d.broken) (done_moved prefix b.entries look neither x)) ∙ e) (also_broken a c _ _ (λ e. e) h)

    row_moved : (x : StmtTree) (a c : Starts) → AreStarts a c → AreStarts (initial_row there a x) (initial_row look c x)
    row_moved (set blocking delay x e) a c h =
        let i = aim_moved prefix b.entries look of_registers x in let own = aim look of_registers x in
        let rules_there =
        breaks_if (not blocking || not (names_register there x)) 313 (first_name x) in
        let rules_here = breaks_if (not blocking || not (names_register look x)) 313 (first_name x) in
        let one : Starts =
        record { starts = a.starts; broken = a.broken ++ (aim there of_registers x).broken } in
        let two : Starts = record { starts = c.starts; broken = c.broken ++ own.broken } in
        let first = also_broken a c (aim there of_registers x).broken own.broken (λ q. sym (ap (λ (y : Aim). y.broken) i) ∙ q) h in
        let second = also_broken one two rules_there rules_here (λ q. sym (ap (λ n. breaks_if (not blocking || not n) 313 (first_name x)) (names_moved x)) ∙ q) first in
        subst (λ (y : Aim). AreStarts (row_at there (first_name x) (record one { broken = one.broken ++ rules_there }) (read there e) y.target)
        (row_at look (first_name x) (record two { broken = two.broken ++ rules_here }) (read look e) own.target)) (sym i)
        (row_at_moved (first_name x) (read look e) (read there e) (read_moved prefix b.entries look e) own.target _ _ second)
    row_moved null a c h = other_moved null a c h
    row_moved (when q x) a c h = other_moved (when q x) a c h
    row_moved (either q x y) a c h = other_moved (either q x y) a c h
    row_moved (switch q rows) a c h = other_moved (switch q rows) a c h
    row_moved (switch_else q rows d) a c h = other_moved (switch_else q rows d) a c h
    row_moved (block rows) a c h = other_moved (block rows) a c h

    rows_moved : (xs : StmtTrees) (a c : Starts) → AreStarts a c → AreStarts (initial_rows there a xs) (initial_rows look c xs)
    rows_moved no_rows a c h = h
    rows_moved (and_rows x xs) a c h = rows_moved xs (initial_row there a x) (initial_row look c x) (row_moved x a c h)

    initial_moved : (x : StmtTree) (a c : Starts) → AreStarts a c → AreStarts (initial_starts there a x) (initial_starts look c x)
    initial_moved (block rows) a c h = rows_moved rows a c h
    initial_moved null a c h = row_moved null a c h
    initial_moved (set blocking delay x e) a c h = row_moved (set blocking delay x e) a c h
    initial_moved (when q x) a c h = row_moved (when q x) a c h
    initial_moved (either q x y) a c h = row_moved (either q x y) a c h
    initial_moved (switch q rows) a c h = row_moved (switch q rows) a c h
    initial_moved (switch_else q rows d) a c h = row_moved (switch_else q rows d) a c h

    with_starts_follows : (p : Place) (a c : Starts) (t : Stage) → AreStarts a c → with_starts (over s) p a ≡ good t → Follows P (with_starts s p c) t
    with_starts_follows p a c t j =
        judged_follows P by_number p a.broken c.broken (with_design s (record s.design { starts = c.starts })) _ t j.rules
        (λ i. ap (λ zs. with_design (over s) (record (over s).design { starts = zs })) j.starts) (stays s (record s.design { starts = c.starts }) refl refl h)

    nothing_started : AreStarts (so_far (over s)) (so_far s)
    nothing_started = record { starts = refl; rules = λ e. refl }

    pub initial_follows : (p : Place) (x : StmtTree) (t : Stage) → initial_item (over s) p x ≡ good t → Follows P (initial_item s p x) t
    initial_follows p x t =
        with_starts_follows p (initial_starts there (so_far (over s)) x) (initial_starts look (so_far s) x) t (initial_moved x (so_far (over s)) (so_far s) nothing_started)

    start_follows : (p : Place) (x : Text) (o : Option Meaning) (v w : Term) (t : Stage) → w ≡ moved_term k v → start_of (over s) p x (moved_if k o) w ≡ good t
        → Follows P (start_of s p x o v) t
    start_follows p x (Some (a_signal n)) v w t i =
        with_starts_follows p (start there x (k + n) w (so_far (over s))) (start look x n v (so_far s)) t (start_moved x n v w (so_far (over s)) (so_far s) i nothing_started)
    start_follows p x None v w t i = same_follows P by_number p w.broken v.broken s (over s) t (ap (λ (y : Term). y.broken) i) refl h
    start_follows p x (Some (a_param q)) v w t i = same_follows P by_number p w.broken v.broken s (over s) t (ap (λ (y : Term). y.broken) i) refl h
    start_follows p x (Some (a_memory m)) v w t i = same_follows P by_number p w.broken v.broken s (over s) t (ap (λ (y : Term). y.broken) i) refl h
    start_follows p x (Some no_value) v w t i = same_follows P by_number p w.broken v.broken s (over s) t (ap (λ (y : Term). y.broken) i) refl h

    declared_follows : (p : Place) (x : Text) (e : ExprTree) (t : Stage) → declared_start (over s) p x e ≡ good t → Follows P (declared_start s p x e) t
    declared_follows p x e t q =
        start_follows p x (meaning look x) (read look e) (read there e) t (read_moved prefix b.entries look e)
        (subst (λ o. start_of (over s) p x o (read there e) ≡ good t) (known prefix b.entries look x) q)

    pub value_follows : (p : Place) (x : Text) (o : Option ExprTree) (kind : DeclKind) (t : Stage) → value_item (over s) p x o kind ≡ good t → Follows P (value_item s p x o kind) t
    value_follows p x None kind t e = good_follows P s t h e
    value_follows p x (Some v) kinds.Wire t e = assign_follows p (whole x) v t e
    value_follows p x (Some v) kind t e = declared_follows p x v t e
