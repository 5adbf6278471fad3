-- What the tables show of a signal that is meant.
use Rattle.std.proofs.Common.{◌≡◌, ℕ, Bool, true, false, cond, not, ◌&&◌, ◌||◌, Option, Some, None, refl, sym, ap, ap₂, ◌∙◌, rules}
use Rattle.std.specs.Prelude.{slice_get, is_some, is_none, option_map, option_and_then}
use Rattle.std.specs.Bool.{beq}
use Rattle.std.specs.Option.{option_map_or, option_eq}
use Rattle.std.proofs.lemmas.Option.{slice_get-map}
use Rattle.verilog_ast.specs.declared.DeclKind.{DeclKind}
use Rattle.verilog_reading.specs.SourceTree.{DeclTree}
use Rattle.flat_unfolding.specs.Outcome.{Text}
use Rattle.flat_unfolding.specs.Names as n
use Rattle.flat_unfolding.specs.Names.{a_signal, meaning, range_at}
use Rattle.flat_unfolding.specs.Declarations.{is_inner, is_reg_kind, direction_of as direction_by, may_be_again, if_open, again, has_direction, same_range}
use Rattle.flat_unfolding.specs.Targets.{is_input}
use Rattle.flat_names.specs.contracts.scope.BoundsPartialEq.TheImpl as equality
use Rattle.flat_names.specs.declared.scope.Bounds.{Bounds}
use Rattle.flat_names.specs.declared.scope.Look.{Look}
use Rattle.flat_names.specs.declared.scope.Meaning.TheVariants as m
use Rattle.flat_names.specs.declared.design.Entry.{Entry}
use Rattle.flat_names.specs.Looks.{meaning_of, meant, Seen, seen, shown, direction_of, range_of, Shows}
use Rattle.flat_names.proofs.Options.{some-same}
use Rattle.flat_names.proofs.Looked.{meant-is, entry-is, range-is}
use Rattle.flat_declarations.specs.Declaring.{ShowsOpen, is_again}

module _ (k : Look) (l : n.Look) (h : Shows k l) (x : Text) (s : ℕ) (e : Some (m.Signal s) ≡ meant k.names.now x) where
  signal-is : meaning l x ≡ Some (a_signal s)
  signal-is = meant-is k l h x ∙ ap (option_map meaning_of) (sym e)

  directed : option_map_or (λ (y : Entry). not (is_inner (direction_of y.role))) (slice_get k.entries.now s) false ≡ option_map_or (λ (y : n.Entry). not (is_inner y.direction)) (slice_get l.entries s) false
  directed = left (slice_get k.entries.now s) ∙ ap (λ o. option_map_or (λ (q : Seen). not (is_inner q.direction)) o false) (entry-is k l h s) ∙ sym (right (slice_get l.entries s))
    where
      left : (o : Option Entry) → option_map_or (λ (y : Entry). not (is_inner (direction_of y.role))) o false ≡ option_map_or (λ (q : Seen). not (is_inner q.direction)) (option_map seen o) false
      left None = refl
      left (Some y) = refl

      right : (o : Option n.Entry) → option_map_or (λ (y : n.Entry). not (is_inner y.direction)) o false ≡ option_map_or (λ (q : Seen). not (is_inner q.direction)) (option_map shown o) false
      right None = refl
      right (Some y) = refl

  pub direction-is : has_direction l x ≡ option_map_or (λ (y : Entry). not (is_inner (direction_of y.role))) (slice_get k.entries.now s) false
  direction-is = rw signal-is (sym directed)

  opened : (kind : DeclKind) → ShowsOpen k l → option_map_or (is_again kind) (slice_get k.entries.now s) false ≡ option_map_or (may_be_again kind) (slice_get l.entries s) false
  opened kind o = go (slice_get k.entries.now s) (slice_get l.entries s) at (entry-is k l h s)
    where
      at : option_map (λ (y : Entry). y.is_open) (slice_get k.entries.now s) ≡ option_map (λ (y : n.Entry). y.is_open) (slice_get l.entries s)
      at = sym (slice_get-map (λ (y : Entry). y.is_open) k.entries.now s) ∙ ap (λ bs. slice_get bs s) o ∙ slice_get-map (λ (y : n.Entry). y.is_open) l.entries s

      go : (a : Option Entry) (b : Option n.Entry) → option_map (λ (y : Entry). y.is_open) a ≡ option_map (λ (y : n.Entry). y.is_open) b → option_map seen a ≡ option_map shown b
          → option_map_or (is_again kind) a false ≡ option_map_or (may_be_again kind) b false
      go None None e d = refl
      go None (Some y) e d = absurd (search (rules, e))
      go (Some x) None e d = absurd (search (rules, e))
      go (Some x) (Some y) e d = ap₂ (λ p q. p && not (is_reg_kind kind && is_input q)) (some-same x.is_open y.is_open e) (ap (λ (z : Seen). z.direction) (some-same (seen x) (shown y) d))

-- a wire or a register of that name, which is no array
pub again-is : (k : Look) (l : n.Look) → Shows k l → (x : DeclTree) (s : ℕ) (b : Bool) → ShowsOpen k l → is_inner (direction_by x.kind) ≡ true → is_none x.array ≡ true → Some (m.Signal s) ≡ meant k.names.now x.name
    → b ≡ option_map_or (is_again x.kind) (slice_get k.entries.now s) false → cond b (Some s) None ≡ again l x
again-is k l h x s b o i a e d =
    sym (ap (λ (c : Bool). cond (c && is_none x.array) (if_open x.kind l.entries (meaning l x.name)) None) i
    ∙ ap (λ (c : Bool). cond (true && c) (if_open x.kind l.entries (meaning l x.name)) None) a
    ∙ ap (if_open x.kind l.entries) (signal-is k l h x.name s e)
    ∙ ap (λ (c : Bool). cond c (Some s) None) (sym (d ∙ opened k l h x.name s e x.kind o)))

-- ---- declared ranges

same-bounds : (a b : Option Bounds) → option_eq equality.eq-value.it a b ≡ same_range (option_map range_of a) (option_map range_of b)
same-bounds None None = refl
same-bounds None (Some b) = refl
same-bounds (Some a) None = refl
same-bounds (Some a) (Some b) = refl

module _ (k : Look) (l : n.Look) (h : Shows k l) (s : ℕ) (before now : Option Bounds) (e : before ≡ option_and_then (λ (y : Entry). y.bounds) (slice_get k.entries.now s)) where
  bounds-are : same_range (range_at l.entries s) (option_map range_of now) ≡ option_eq equality.eq-value.it before now
  bounds-are = ap (λ r. same_range r (option_map range_of now)) (sym (range-is k l h s) ∙ ap (option_map range_of) (sym e)) ∙ sym (same-bounds before now)

  -- another range than before
  pub other-bounds : (a r : Bool) → a ≡ not (option_eq equality.eq-value.it before now) → a ≡ true → a ≡ (not (same_range (range_at l.entries s) (option_map range_of now)) || r)
  other-bounds a r d t = t ∙ ap (λ b. b || r) (sym (ap not bounds-are ∙ sym d ∙ t))

  -- one of the two has no range
  pub one-bounds : (a b c w : Bool) → a ≡ not (option_eq equality.eq-value.it before now) → a ≡ false → b ≡ is_some before → c ≡ w → (is_some (option_map range_of now) ≡ true → w ≡ true)
      → not (beq b c) ≡ (not (same_range (range_at l.entries s) (option_map range_of now)) || (w && is_none (option_map range_of now)))
  one-bounds a b c w d t i j some = by-bounds before now b c w (sym d ∙ t) i j some ∙ ap (λ x. x || (w && is_none (option_map range_of now))) (sym (ap not bounds-are ∙ sym d ∙ t))
    where
      without : (w : Bool) → not (beq false w) ≡ (w && true)
      without true = refl
      without false = refl

      by-bounds : (p q : Option Bounds) (b c w : Bool) → not (option_eq equality.eq-value.it p q) ≡ false → b ≡ is_some p → c ≡ w → (is_some (option_map range_of q) ≡ true → w ≡ true) → not (beq b c) ≡ (w && is_none (option_map range_of q))
      by-bounds (Some p) (Some q) b c w n i j s = ap₂ (λ x y. not (beq x y)) i (j ∙ s refl) ∙ sym (ap (λ x. x && false) (s refl))
      by-bounds None None b c w n i j s = ap₂ (λ x y. not (beq x y)) i j ∙ without w
      by-bounds None (Some q) b c w n i j s = absurd (search (rules, n))
      by-bounds (Some p) None b c w n i j s = absurd (search (rules, n))
