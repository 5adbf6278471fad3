-- Targets by forms: what each is that was read, and what it breaks.
use Rattle.std.proofs.Common.{◌≡◌, ℕ, ◌<◌, ◌≤◌, Bool, true, false, cond, not, List, [], ◌++◌, length, map, Option, Some, None, is_none, refl, sym, ap, ap₂, subst, ◌∙◌, arith}
use Rattle.std.specs.Prelude.{option_map, option_and_then, slice_get, IfOk, Result, Ok, Err}
use Rattle.std.specs.Option.{option_map_or}
use Rattle.std.proofs.lemmas.Bool.{false≢true}
use Rattle.verilog_ast.specs.declared.PartKind.{PartKind}
use Rattle.flat_meaning.specs.Flat as m
use Rattle.flat_meaning.specs.Flat.{size}
use Rattle.flat_form.specs.declared.flat.FExpr.{FExpr}
use Rattle.flat_form.specs.declared.flat.FTarget.{FTarget}
use Rattle.flat_form.specs.declared.flat.FTarget.TheOpen.{FTarget-F}
use Rattle.flat_form.specs.declared.flat.FTarget.TheFolds.{fold-roll-FTarget}
use Rattle.flat_form.specs.declared.flat.FTarget.TheVariants as f
use Rattle.flat_form.specs.View.{expr_of}
use Rattle.flat_form.specs.Sizes.{is_sized, kept_of}
use Rattle.flat_form.proofs.Folds.{target_of-Whole, target_of-At, target_of-Part, target_of-Join}
use Rattle.flat_form.proofs.Sized.{word_width, sized_width}
use Rattle.flat_unfolding.specs.Outcome.{Text, Broken, breaks, breaks_if}
use Rattle.flat_unfolding.specs.Names as n
use Rattle.flat_unfolding.specs.Names.{Range, a_signal, width_of, width_at, range_at, offset_in}
use Rattle.flat_unfolding.specs.Constants.{own_value}
use Rattle.flat_unfolding.specs.Expressions.{Term, as_constant, as_bound, as_second, Select, one_bit, may_index}
use Rattle.flat_unfolding.specs.Targets as t
use Rattle.flat_unfolding.specs.Targets.{Aim, Use, of_wires, of_registers, takes, nowhere, aim_at, behind}
use Rattle.flat_names.specs.declared.scope.Meaning.{Meaning}
use Rattle.flat_names.specs.declared.scope.Look.{Look}
use Rattle.flat_names.specs.declared.scope.Bounds.{Bounds}
use Rattle.flat_names.specs.declared.design.Entry.{Entry}
use Rattle.flat_targets.specs.declared.target.Fixed.{Fixed}
use Rattle.flat_names.specs.declared.resolved.Resolved.{Resolved}
use Rattle.flat_names.specs.Noting.{Noted, all_noted}
use Rattle.flat_names.specs.Pieces.{EachIs, out_of_range, IsRead}
use Rattle.flat_names.specs.Selects.{bound_notes, second_notes, select_of, part_in, part_notes}
use Rattle.flat_names.specs.Looks.{range_of, meaning_of, meant, seen, shown, Shows, IsFit}
use Rattle.flat_names.specs.Looks.{takes_seen}
use Rattle.flat_targets.specs.Aims.{sized_step, all_true, is_target_sized, IsAim}
use Rattle.flat_names.proofs.Notes.{IsOne, noted-both, noted-late}
use Rattle.flat_names.proofs.Options.{none-some, some-same}
use Rattle.flat_names.proofs.Looked.{range-is, meant-is, entry-is, width-is}
use Rattle.flat_names.proofs.Fit.{ones-both, one-range}
use Rattle.flat_names.proofs.Selected.{second-broken}

-- ---- what may be assigned

step : (u : Use) (y : n.Entry) → takes_seen u (shown y) ≡ takes u y
step of_wires y = refl
step of_registers y = refl

takes-both : (u : Use) (o : Option Entry) (q : Option n.Entry) → option_map seen o ≡ option_map shown q → option_map_or (λ (x : Entry). takes_seen u (seen x)) o false ≡ option_map_or (takes u) q false
takes-both u None None e = refl
takes-both u None (Some y) e = none-some (shown y) e
takes-both u (Some x) None e = none-some (seen x) (sym e)
takes-both u (Some x) (Some y) e = ap (takes_seen u) (some-same (seen x) (shown y) e) ∙ step u y

pub takes-is : (u : Use) (k : Look) (l : n.Look) → Shows k l → (s : ℕ) (o : Option Entry) → o ≡ slice_get k.entries.now s → option_map_or (λ (x : Entry). takes_seen u (seen x)) o false ≡ option_map_or (takes u) (slice_get l.entries s) false
takes-is u k l h s o e = takes-both u o (slice_get l.entries s) (ap (option_map seen) e ∙ entry-is k l h s)

pub meaning-at : (k : Look) (l : n.Look) → Shows k l → (x : Text) (o : Option Meaning) → o ≡ meant k.names.now x → n.meaning l x ≡ option_map meaning_of o
meaning-at k l h x o e = meant-is k l h x ∙ ap (option_map meaning_of) (sym e)

-- ---- notes, one after another

pub then-noted : (f g h : Noted) (bs cs : List Broken) → g ≡ all_noted f bs → h ≡ all_noted g cs → h ≡ all_noted f (bs ++ cs)
then-noted f g h bs cs e d = d ∙ ap (λ x. all_noted x cs) e ∙ sym (noted-both f bs cs)

each-range : (t : Bool) → EachIs (λ b. b ≡ out_of_range) (breaks_if t 307 [])
each-range true = (refl, tt)
each-range false = tt

-- what the two numbers of a part break is told behind both constants, and stands behind their own in the text
pub bounds-noted : (f : Noted) (kind : PartKind) (v w : Term) → EachIs IsOne w.broken
    → all_noted (all_noted (all_noted f (as_constant v).broken) (as_constant w).broken) (bound_notes v ++ second_notes kind w) ≡ all_noted f ((as_bound v).broken ++ (as_second kind w).broken)
bounds-noted f kind v w h =
    let a = (as_constant v).broken in
    let b = (as_constant w).broken in
    noted-both (all_noted (all_noted f a) b) (bound_notes v) (second_notes kind w)
    ∙ ap (λ g. all_noted g (second_notes kind w)) (noted-late (all_noted f a) (bound_notes v) b (each-range _) (ones-both w.broken _ h (one-range _)))
    ∙ ap (λ g. all_noted (all_noted g b) (second_notes kind w)) (sym (noted-both f a (bound_notes v)))
    ∙ sym (noted-both (all_noted f (as_bound v).broken) b (second_notes kind w))
    ∙ ap (all_noted (all_noted f (as_bound v).broken)) (sym (second-broken kind w))
    ∙ sym (noted-both f (as_bound v).broken (as_second kind w).broken)

-- ---- forms

pub sized-Whole : (sig : ℕ) → is_target_sized (f.Whole sig) ≡ true
sized-Whole sig = ap is_target_sized (sym (f.rolls-Whole sig)) ∙ fold-roll-FTarget Bool sized_step (FTarget-F.Whole sig)

pub sized-At : (sig : ℕ) (index : FExpr) → is_target_sized (f.At sig index) ≡ is_sized index
sized-At sig index = ap is_target_sized (sym (f.rolls-At sig index)) ∙ fold-roll-FTarget Bool sized_step (FTarget-F.At sig index)

pub sized-Part : (sig at width : ℕ) → is_target_sized (f.Part sig at width) ≡ true
sized-Part sig at width = ap is_target_sized (sym (f.rolls-Part sig at width)) ∙ fold-roll-FTarget Bool sized_step (FTarget-F.Part sig at width)

pub sized-Join : (parts : List FTarget) → is_target_sized (f.Join parts) ≡ all_true (map is_target_sized parts)
sized-Join parts = ap is_target_sized (sym (f.rolls-Join parts)) ∙ fold-roll-FTarget Bool sized_step (FTarget-F.Join parts)

abbrev pub no_target : Fixed
no_target = record { target = f.Join []; width = 0; is_sound = false }

pub aim-nowhere : (bs : List Broken) → IsAim (nowhere bs) no_target
aim-nowhere bs = record { sound = refl; width = λ n e. none-some n e; target = target_of-Join []; sized = sized-Join [] }

pub aim-whole : (k : Look) (l : n.Look) → Shows k l → (s : ℕ) → s < length l.entries → (w : ℕ) → w ≡ option_map_or (λ (x : Entry). x.width) (slice_get k.entries.now s) 1
    → IsAim (aim_at (m.Whole s) (width_at l.entries s)) (record { target = f.Whole s; width = w; is_sound = true })
aim-whole k l h s i w e = record { sound = refl; width = λ n d. e ∙ width-is k l h s i ∙ some-same _ n d; target = target_of-Whole s; sized = sized-Whole s }

pub aim-part : (s at w : ℕ) → IsAim (aim_at (m.Part s at w) w) (record { target = f.Part s at w; width = w; is_sound = true })
aim-part s at w = record { sound = refl; width = λ n d. some-same w n d; target = target_of-Part s at w; sized = sized-Part s at w }

-- the bits of a variable index, whether or not it may miss
abbrev pub pick_aim : ℕ → m.Expr → List Broken → Aim
pick_aim s e bs = record { target = m.Pick s e; bits = Some 1; broken = bs }

pub aim-pick : (s : ℕ) (x : FExpr) (e : m.Expr) (bs : List Broken) → expr_of x ≡ e → is_sized x ≡ true
    → IsAim (pick_aim s e bs) (record { target = f.At s x; width = 1; is_sound = true })
aim-pick s x e bs d h = record { sound = refl; width = λ n c. some-same 1 n c; target = target_of-At s x ∙ ap (m.Pick s) d; sized = sized-At s x ∙ h }

-- what stands behind the rules that a name and its parts break
pub behind-gives : (bs : List Broken) (a b : Aim) → a ≡ b → (f g h : Noted) (r : Fixed) → g ≡ all_noted f bs → IsAim b r → h ≡ all_noted g b.broken
    → IsAim (behind bs a) r × (h ≡ all_noted f (behind bs a).broken)
behind-gives bs a b e f g h r k i j = let i : IsAim a r = subst (λ x. IsAim x r) (sym e) i in
    (record { sound = i.sound; width = i.width; target = i.target; sized = i.sized }, then-noted f g h bs a.broken k (j ∙ ap (λ (x : Aim). all_noted g x.broken) (sym e)))

-- ---- selects

pub range-small : (l : n.Look) → IsFit l → (s : ℕ) → width_of (range_at l.entries s) ≤ 64
range-small l h s = go (slice_get l.entries s) refl
  where
    go : (o : Option n.Entry) → slice_get l.entries s ≡ o → width_of (option_and_then (λ (e : n.Entry). e.range) o) ≤ 64
    go None e = omega arith
    go (Some x) e = (word_width (width_of x.range) (h.entries s x e)).most

-- a part that is inside, and one that is not
pub part-some : (l : n.Look) (u : Use) (x : Text) (s : ℕ) (kind : PartKind) (o : Option Range) (q : ℕ × ℕ) → Some (select_of q) ≡ part_in (range_at l.entries s) kind o
    → (t.meant_range l u x kind o (Some (a_signal s)) ≡ aim_at (m.Part s q.0 q.1) q.1) × (part_notes x (range_at l.entries s) kind o ≡ [])
part-some l u x s kind None q e = none-some (select_of q) (sym e)
part-some l u x s kind (Some p) q e = (ap (t.select_aim l u x s) (sym e), ap (λ (o : Option Select). breaks_if (is_none o) 314 x) (sym e))

pub part-none : (l : n.Look) (u : Use) (x : Text) (s : ℕ) (kind : PartKind) (o : Option Range) → None ≡ part_in (range_at l.entries s) kind o
    → IsAim (t.meant_range l u x kind o (Some (a_signal s))) no_target × (part_notes x (range_at l.entries s) kind o ≡ (t.meant_range l u x kind o (Some (a_signal s))).broken)
part-none l u x s kind None e = (aim-nowhere [], refl)
part-none l u x s kind (Some p) e = (
  subst (λ o. IsAim (t.select_aim l u x s o) no_target) e (aim-nowhere (breaks 314 x)),
  ap (λ (o : Option Select). breaks_if (is_none o) 314 x) (sym e) ∙ ap (λ o. (t.select_aim l u x s o).broken) e,
)

range-of : (k : Look) (l : n.Look) → Shows k l → (s : ℕ) (b : Option Bounds) → b ≡ option_and_then (λ (e : Entry). e.bounds) (slice_get k.entries.now s) → option_map range_of b ≡ range_at l.entries s
range-of k l h s b e = ap (option_map range_of) e ∙ range-is k l h s

-- what is told of a part of a signal's range
abbrev pub PartIs : Text → (range : Option Range) → PartKind → (part : Option Range) → Option (ℕ × ℕ) → (f g : Noted) → Type 0
PartIs x r kind o q f g = width_of r ≤ 64 → (option_map select_of q ≡ part_in r kind o) × (g ≡ all_noted f (part_notes x r kind o))

pub part-inside : (k : Look) (l : n.Look) → Shows k l → IsFit l → (u : Use) (x : Text) (s : ℕ) (kind : PartKind) (o : Option Range) (b : Option Bounds) → b ≡ option_and_then (λ (e : Entry). e.bounds) (slice_get k.entries.now s)
    → (q : Option (ℕ × ℕ)) (f g : Noted) → PartIs x (option_map range_of b) kind o q f g → (p : ℕ × ℕ) → q ≡ Some p → (r : Fixed) → IsAim (aim_at (m.Part s p.0 p.1) p.1) r → n.meaning l x ≡ Some (a_signal s)
    → IsAim (t.meant_range l u x kind o (n.meaning l x)) r × (g ≡ all_noted f (t.meant_range l u x kind o (n.meaning l x)).broken)
part-inside k l h fit u x s kind o b be q f g told p qe r i me =
    let re = range-of k l h s b be in
    let pr = told (subst (λ r. width_of r ≤ 64) (sym re) (range-small l fit s)) in
    let ps = part-some l u x s kind o p (sym (ap (option_map select_of) qe) ∙ pr.0 ∙ ap (λ r. part_in r kind o) re) in
    let all : t.meant_range l u x kind o (n.meaning l x) ≡ aim_at (m.Part s p.0 p.1) p.1 = ap (t.meant_range l u x kind o) me ∙ ps.0 in
    (subst (λ a. IsAim a r) (sym all) i, pr.1 ∙ ap (all_noted f) (ap (λ r. part_notes x r kind o) re ∙ ps.1) ∙ ap (λ (a : Aim). all_noted f a.broken) (sym all))

pub part-outside : (k : Look) (l : n.Look) → Shows k l → IsFit l → (u : Use) (x : Text) (s : ℕ) (kind : PartKind) (o : Option Range) (b : Option Bounds) → b ≡ option_and_then (λ (e : Entry). e.bounds) (slice_get k.entries.now s)
    → (q : Option (ℕ × ℕ)) (f g : Noted) → PartIs x (option_map range_of b) kind o q f g → q ≡ None → (r : Fixed) → r ≡ no_target → n.meaning l x ≡ Some (a_signal s)
    → IsAim (t.meant_range l u x kind o (n.meaning l x)) r × (g ≡ all_noted f (t.meant_range l u x kind o (n.meaning l x)).broken)
part-outside k l h fit u x s kind o b be q f g told qe r i me =
    let re = range-of k l h s b be in
    let pr = told (subst (λ r. width_of r ≤ 64) (sym re) (range-small l fit s)) in
    let ps = part-none l u x s kind o (sym (ap (option_map select_of) qe) ∙ pr.0 ∙ ap (λ r. part_in r kind o) re) in
    let all : t.meant_range l u x kind o (n.meaning l x) ≡ t.meant_range l u x kind o (Some (a_signal s)) = ap (t.meant_range l u x kind o) me in (
      subst (λ a. IsAim a r) (sym all) (subst (λ r. IsAim (t.meant_range l u x kind o (Some (a_signal s))) r) (sym i) ps.0),
      pr.1 ∙ ap (all_noted f) (ap (λ r. part_notes x r kind o) re ∙ ps.1) ∙ ap (λ (a : Aim). all_noted f a.broken) (sym all),
    )

-- what is neither a signal nor a memory has no parts
abbrev pub is_plain : Option n.Meaning → Bool
is_plain None = true
is_plain (Some (a_signal s)) = false
is_plain (Some (n.a_memory a)) = false
is_plain (Some (n.a_param p)) = true
is_plain (Some n.no_value) = true

plain-range : (l : n.Look) (u : Use) (x : Text) (kind : PartKind) (o : Option Range) (v : Option n.Meaning) → is_plain v ≡ true → t.meant_range l u x kind o v ≡ nowhere []
plain-range l u x kind None None e = refl
plain-range l u x kind (Some p) None e = refl
plain-range l u x kind None (Some (n.a_param p)) e = refl
plain-range l u x kind (Some q) (Some (n.a_param p)) e = refl
plain-range l u x kind None (Some n.no_value) e = refl
plain-range l u x kind (Some q) (Some n.no_value) e = refl
plain-range l u x kind o (Some (a_signal s)) e = absurd (false≢true e)
plain-range l u x kind o (Some (n.a_memory a)) e = absurd (false≢true e)

pub part-plain : (l : n.Look) (u : Use) (x : Text) (kind : PartKind) (o : Option Range) (f : Noted) (r : Fixed) → r ≡ no_target → is_plain (n.meaning l x) ≡ true
    → IsAim (t.meant_range l u x kind o (n.meaning l x)) r × (f ≡ all_noted f (t.meant_range l u x kind o (n.meaning l x)).broken)
part-plain l u x kind o f r i e = let all = plain-range l u x kind o (n.meaning l x) e in
    (subst (λ a. IsAim a r) (sym all) (subst (IsAim (nowhere [])) (sym i) (aim-nowhere [])), ap (λ (a : Aim). all_noted f a.broken) (sym all))

pub ok-then : {A E : Type 0} (r : Result A E) (P Q : A → Type 0) → ((a : A) → P a → Q a) → IfOk r P → IfOk r Q
ok-then (Ok a) P Q f h = f a h
ok-then (Err e) P Q f h = tt

-- ---- indices

abbrev pub OffsetIs : FExpr → (range : Option Range) → Option ℕ → Type 0
OffsetIs x r o = is_sized x ≡ true → width_of r ≤ 64 → o ≡ offset_in r (own_value (expr_of x))

pub signal-constant : (k : Look) (l : n.Look) → Shows k l → IsFit l → (u : Use) (x : Text) (s : ℕ) (b : Option Bounds) → b ≡ option_and_then (λ (e : Entry). e.bounds) (slice_get k.entries.now s)
    → (v : Term) (i : Resolved) → IsRead v i → i.is_sound ≡ true → i.is_constant ≡ true → (o : Option ℕ) → OffsetIs i.expr (option_map range_of b) o
    → t.signal_aim l u x s v ≡ t.select_aim l u x s (one_bit o)
signal-constant k l h fit u x s b be v i is sound const o told =
    let re = range-of k l h s b be in
    let e = told (is.sized sound) (subst (λ r. width_of r ≤ 64) (sym re) (range-small l fit s)) ∙ ap₂ (λ r y. offset_in r (own_value y)) re (is.expr sound) in
    ap (λ c. cond c (t.select_aim l u x s (one_bit (offset_in (range_at l.entries s) (own_value v.expr)))) (pick_aim s v.expr (breaks_if (not (may_index (range_at l.entries s) (size v.expr))) 315 x))) (sym is.constant ∙ const)
    ∙ ap (λ o. t.select_aim l u x s (one_bit o)) (sym e)

pub signal-variable : (k : Look) (l : n.Look) → Shows k l → (u : Use) (x : Text) (s : ℕ) (b : Option Bounds) → b ≡ option_and_then (λ (e : Entry). e.bounds) (slice_get k.entries.now s)
    → (v : Term) (i : Resolved) → IsRead v i → i.is_sound ≡ true → i.is_constant ≡ false → (w : ℕ) → w ≡ (kept_of i.expr).width → (old new : Noted) → new ≡ all_noted old (breaks_if (not (may_index (option_map range_of b) w)) 315 x)
    → IsAim (t.signal_aim l u x s v) (record { target = f.At s i.expr; width = 1; is_sound = true }) × (new ≡ all_noted old (t.signal_aim l u x s v).broken)
signal-variable k l h u x s b be v i is sound const w we old new told =
    let miss = breaks_if (not (may_index (range_at l.entries s) (size v.expr))) 315 x in
    let all : t.signal_aim l u x s v ≡ pick_aim s v.expr miss = ap (λ c. cond c (t.select_aim l u x s (one_bit (offset_in (range_at l.entries s) (own_value v.expr)))) (pick_aim s v.expr miss)) (sym is.constant ∙ const) in
    let we : w ≡ size v.expr = we ∙ sized_width i.expr (is.sized sound) ∙ ap size (is.expr sound) in (
      subst (λ a. IsAim a (record { target = f.At s i.expr; width = 1; is_sound = true })) (sym all) (aim-pick s i.expr v.expr miss (is.expr sound) (is.sized sound)),
      told ∙ ap₂ (λ r w. all_noted old (breaks_if (not (may_index r w)) 315 x)) (range-of k l h s b be) we ∙ ap (λ (a : Aim). all_noted old a.broken) (sym all),
    )

pub along : (a b : Aim) → a ≡ b → (r : Fixed) (f g : Noted) → IsAim b r × (g ≡ all_noted f b.broken) → IsAim a r × (g ≡ all_noted f a.broken)
along a b e r f g h = subst (λ a. IsAim a r × (g ≡ all_noted f a.broken)) (sym e) h
