-- The stack once an instance's module is entered.
use Rattle.std.proofs.Common.{◌≡◌, ℕ, suc, ◌+◌, ◌≤◌, Bool, true, false, cond, List, [], ◌∷◌, ◌++◌, length, map, Some, None, refl, sym, ap, subst, ◌∙◌, arith, rules, append-nil, append_assoc}
use Rattle.std.specs.Prelude.{All, slice_get, slice_set, option_and_then, codes, bytes_eq}
use Rattle.std.proofs.lemmas.List.Elements.{All-head, All-tail, All-cons, All-nil}
use Rattle.cdc_base.specs.declared.signal.ResetPin.{ResetPin}
use Rattle.cdc_base.specs.declared.fault.Place.{Place}
use Rattle.cdc_base.specs.Words.{found_in, is_in}
use Rattle.verilog_ast.specs.declared.Module.{Module}
use Rattle.verilog_reading.specs.SourceTree.{item_of, module_of}
use Rattle.flat_unfolding.specs.Outcome.{Text}
use Rattle.flat_unfolding.specs.Names as n
use Rattle.flat_unfolding.specs.Names.{Names, Meaning, no_value, meaning_in, printed_part}
use Rattle.flat_unfolding.specs.Instances.{Leaning}
use Rattle.flat_unfolding.specs.Design as u
use Rattle.flat_unfolding.specs.Design.{Stage, look_of}
use Rattle.flat_names.specs.declared.design.Design.{Design}
use Rattle.flat_names.specs.Designs.{ShowsNames, ShowsStage}
use Rattle.flat_design.specs.declared.instance.Given.{Given}
use Rattle.flat_design.specs.declared.visit.Open.{Open}
use Rattle.flat_names.specs.Looks.{IsFit}
use Rattle.flat_design.specs.Visiting.{Frame, visited, leaning_in, part_of, prefix_of, IsFrame, AreFrames, AreFitNames, IsVisiting, Table}
use Rattle.flat_design.proofs.Joints.{flat-both}
use Rattle.flat_design.proofs.Fits.{names-fit, design-fit, more-fit}
use Rattle.flat_design.proofs.Stacks.{last-is, AreNamedApart, mark-entered}

-- an instance's name stands for no value
instance-means : (names : Names) (x y : Text) (v : Meaning) → meaning_in (names ++ ((x, no_value) ∷ [])) y ≡ Some v → meaning_in names y ≡ Some v
instance-means [] x y v e = go (bytes_eq x y) e
  where
    go : (b : Bool) → option_and_then n.as_value (cond b (Some no_value) None) ≡ Some v → meaning_in [] y ≡ Some v
    go true d = absurd (search (rules, d))
    go false d = d
instance-means (p ∷ names) x y v e = go (bytes_eq p.0 y) e (instance-means names x y v)
  where
    go : (b : Bool) → option_and_then n.as_value (cond b (Some p.1) (found_in (names ++ ((x, no_value) ∷ [])) y)) ≡ Some v → (meaning_in (names ++ ((x, no_value) ∷ [])) y ≡ Some v → meaning_in names y ≡ Some v)
        → option_and_then n.as_value (cond b (Some p.1) (found_in names y)) ≡ Some v
    go true d later = d
    go false d later = later d

pub instance-fit : (names : Names) (x : Text) (count : ℕ) → AreFitNames names count → AreFitNames (names ++ ((x, no_value) ∷ [])) count
instance-fit names x count h = record {
  params = λ y p e. h.params y p (instance-means names x y (n.a_param p) e);
  signals = λ y s e. h.signals y s (instance-means names x y (n.a_signal s) e);
  memories = λ y a e. h.memories y a (instance-means names x y (n.a_memory a) e);
}

all-more : (a b : ℕ) → a ≤ b → (fs : List Frame) → All (λ (f : Frame). AreFitNames f.names a) fs → All (λ (f : Frame). AreFitNames f.names b) fs
all-more a b l [] h = All-nil (λ (f : Frame). AreFitNames f.names b)
all-more a b l (f ∷ fs) h =
    All-cons (λ (f : Frame). AreFitNames f.names b) f fs (more-fit f.names a b l (All-head (λ (f : Frame). AreFitNames f.names a) f fs h)) (all-more a b l fs (All-tail (λ (f : Frame). AreFitNames f.names a) f fs h))

module _ (pins : List ResetPin) (modules : List Module) (apart : AreNamedApart modules) (opens : List Open) (o : Open) (marks : List Bool) (kept : Design) (f : Frame) (fs : List Frame) (d : u.Design)
    (h : IsVisiting pins modules (opens ++ o ∷ []) marks kept (f ∷ fs) d) where
  -- the frame of the module that was opened last, and those around it
  pub here : IsFrame modules o f × (f.prefix ≡ prefix_of modules opens) × AreFrames modules opens fs
  here =
      let k = h.frames_are in let e = last-is k.0 opens k.1 o (sym k.2) in
      (subst (λ (p : Open). IsFrame modules p f) e.1 k.3, k.4 ∙ ap (prefix_of modules) e.0, subst (λ (ps : List Open). AreFrames modules ps fs) e.0 k.5)

  module _ (x : Text) (table : Table) (shows : ShowsNames table (f.names ++ ((x, no_value) ∷ []))) (part : part_of modules o ≡ printed_part x ++ codes ".") where
    abbrev pub outer : Open
    outer = record o { names = table }

    abbrev pub around : Frame
    around = record f { names = f.names ++ ((x, no_value) ∷ []) }

    abbrev pub below : Text
    below = f.prefix ++ printed_part x ++ codes "."

    around-is : IsFrame modules outer around
    around-is = record { tree = here.0.tree; found = here.0.found; is = here.0.is; items = here.0.items; names = shows; given = here.0.given; place = here.0.place }

    pub prefix-below : below ≡ prefix_of modules (opens ++ outer ∷ [])
    prefix-below =
        append_assoc f.prefix (printed_part x) (codes ".") ∙ ap (λ t. t ++ (printed_part x ++ codes ".")) here.1 ∙ ap (λ t. prefix_of modules opens ++ t) (sym part ∙ sym (append-nil (part_of modules o)))
        ∙ sym (flat-both (part_of modules) opens (outer ∷ []))

    module _ (number : ℕ) (m : Module) (at : slice_get modules number ≡ Some m) (inner : Table) (grown : Design) (s : Stage) (shown : ShowsStage pins inner grown s) (fit : IsFit (look_of s))
        (more : length d.entries ≤ length s.design.entries) (depth : ℕ) (deep : f.depth ≡ suc depth) (new : is_in (visited (f ∷ fs)) m.name ≡ false)
        (given : Given) (leaning : List Leaning) (p : Place) (leans : map leaning_in given.params.items ++ map leaning_in given.ports.items ≡ leaning) (placed : given.place ≡ Some p) where
      abbrev pub entered_open : Open
      entered_open = record { «module» = number; names = inner; next = 0; given = given }

      abbrev pub entered_frame : Frame
      entered_frame = record { tree = module_of m; names = s.names; items = map item_of m.items; prefix = below; depth = depth; given = leaning; place = Some p }

      pub entered : IsVisiting pins modules ((opens ++ outer ∷ []) ++ entered_open ∷ []) (slice_set marks number true) grown (entered_frame ∷ around ∷ fs) s.design
      entered = record {
        frames_are = (opens ++ outer ∷ [], entered_open, refl, record { tree = m; found = at; is = refl; items = refl; names = shown.names; given = leans; place = placed }, prefix-below, (opens, outer, refl, around-is, here.1, here.2));
        marks_are = mark-entered modules apart marks number m at (visited (f ∷ fs)) h.marks_are;
        design = shown.design;
        fit = design-fit s fit;
        names = All-cons (λ (g : Frame). AreFitNames g.names (length s.design.entries)) entered_frame (around ∷ fs) (names-fit s fit)
            (All-cons (λ (g : Frame). AreFitNames g.names (length s.design.entries)) around fs
            (instance-fit f.names x (length s.design.entries) (more-fit f.names (length d.entries) (length s.design.entries) more (All-head (λ (g : Frame). AreFitNames g.names (length d.entries)) f fs h.names)))
            (all-more (length d.entries) (length s.design.entries) more fs (All-tail (λ (g : Frame). AreFitNames g.names (length d.entries)) f fs h.names)));
        bounded = (let b = h.bounded.0 in (let e : depth + length (entered_frame ∷ around ∷ fs) ≡ length modules = omega (arith, b, deep) in e), h.bounded);
        different = (new, h.different);
      }
