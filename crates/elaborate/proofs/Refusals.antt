-- What refusals tell.
use Rattle.std.proofs.Common.{◌≡◌, ◌∙◌, ◌↔◌, refl, sym, ap, subst, arith, ℕ, ◌+◌, ◌<◌, ◌≤◌, zero, suc, true, List, [], ◌∷◌, length, drop, Some, slice_get}
use Rattle.std.specs.Prelude.{IfErr, Result, Ok, Err}
use Rattle.std.specs.List.{Contains}
use Rattle.std.proofs.lemmas.Option.{slice_get_within}
use Rattle.cdc_base.specs.declared.fault.Fault.{Fault}
use Rattle.cdc_base.specs.declared.fault.Stop.{Stop}
use Rattle.cdc_base.specs.declared.fault.Stop.TheVariants.{Refused, Memory}
use Rattle.cdc_base.specs.declared.signal.Signal.{Signal}
use Rattle.refusals.specs.Limits.{IsPastLimit, Tells}
use Rattle.refusals.specs.Numbers.{HasNumberIn, elaboration_numbers, is_listed}
use Rattle.flat_meaning.specs.Design.{Flat}
use Rattle.flat_meaning.specs.Segments.{IsLoopFree}
use Rattle.driver_trees.specs.declared.sketch.Sketch.{Sketch}
use Rattle.driver_loops.specs.Orders.{HasLoop, IsOrderOf, LeadsBack}
use Rattle.driver_loops.specs.Walks.{IsMarked}
use Rattle.loop_law.specs.Loops.{FirstLoopIsFirst, SignalsOnLoops, links}
use Rattle.cdc_base.specs.declared.limits.TheConstants.{MAX_STATE_BITS}
use Rattle.flat_form.specs.declared.flat.Flat.{Flat as Flattened}
use Rattle.flat_form.specs.View.{flat_of}
use Rattle.elaborate.specs.Limits.{state_bits}
use Rattle.elaborate.specs.Refusals.{IsDesignOf, IsFirstMarked, IsFlattened, IsNetRefusedFor, IsRefusedFor, NamesFirstLoop, NamesPiece, NamesSignal}

pub tells-also : (P Q : Fault → Type 0) → ((fault : Fault) → P fault → Q fault) → (stop : Stop) → Tells P stop → Tells Q stop
tells-also P Q step (Refused fault) told = step fault told
tells-also P Q step Memory told = told

pub err-also : {T : Type 0} (P Q : Stop → Type 0) → ((stop : Stop) → P stop → Q stop) → (r : Result T Stop) → IfErr r P → IfErr r Q
err-also P Q step (Ok x) told = told
err-also P Q step (Err stop) told = step stop told

pub limit-numbered : (n : ℕ) → is_listed elaboration_numbers n ≡ true → (stop : Stop) → Tells (IsPastLimit n) stop → HasNumberIn elaboration_numbers stop
limit-numbered n listed (Refused fault) told = ap (is_listed elaboration_numbers) told.number ∙ listed
limit-numbered n listed Memory told = told

-- the first marked piece is the first one that leads back to itself
pub first-back : (signals : List Signal) (s : Sketch) (ls : List (List ℕ)) (order : List ℕ) (marks : _) (signal : Signal) → IsFirstMarked signals s marks signal
    → ((roots : List ℕ) → IsOrderOf ls roots order → (v : ℕ) → IsMarked marks v ↔ (Contains order v × LeadsBack ls v)) → (fault : Fault) → NamesSignal signal fault
    → NamesPiece signals s ls order fault
first-back signals s ls order marks signal is exact fault names = record {
  place = is.place;
  piece = is.piece;
  signal = signal;
  stands = is.stands;
  is = is.is;
  back = λ roots of. record {
    back = ((exact roots of (length s.drafts + is.place)).0 is.marked).1;
    first = λ i l has back. is.first i l ((exact roots of (length s.drafts + i)).1 (has, back));
  };
  names = names;
}

-- an order that has all pieces
module _ (f : Flat) (signals : List Signal) (s : Sketch) (is : IsDesignOf f signals s) (order : List ℕ)
    (has : (i : ℕ) → i < length s.pieces.items → Contains order (length s.drafts + i)) where
  pub no-loops : SignalsOnLoops → (HasLoop (links f s.drafts s) order → ⊥) → IsLoopFree f
  no-loops law none n t i depends =
      let piece = (law f s.drafts s is.sound is.filled is.sketch t).1 (n, i, depends) in
      none (length s.drafts + piece.place, has piece.place (slice_get_within s.pieces.items piece.place piece.piece piece.stands), piece.back)

  pub names-first : FirstLoopIsFirst → (roots : List ℕ) → IsOrderOf (links f s.drafts s) roots order → (fault : Fault) → NamesPiece signals s (links f s.drafts s) order fault → NamesFirstLoop f fault
  names-first law roots of fault told =
      let back = told.back roots of in
      let within = slice_get_within s.pieces.items told.place told.piece told.stands in
      let first = law f s.drafts s is.sound is.filled is.sketch told.place told.piece told.stands back.back (λ m l b. back.first m l (has m (omega arith)) b) in
      record {
        sig = told.piece.sig;
        signal = told.signal;
        stands = ap (λ ss. slice_get ss told.piece.sig) is.same ∙ told.is;
        first = record { loops = first.0; none_below = first.1 };
        names = told.names;
      }

pub get-drop : {A : Type 0} (xs : List A) (k i : ℕ) → slice_get (drop k xs) i ≡ slice_get xs (k + i)
get-drop [] zero i = refl
get-drop [] (suc k) i = refl
get-drop (x ∷ xs) zero i = ap (slice_get (x ∷ xs)) (let e : i ≡ 0 + i = omega arith in e)
get-drop (x ∷ xs) (suc k) i = get-drop xs k i ∙ ap (slice_get (x ∷ xs)) (let e : suc (k + i) ≡ suc k + i = omega arith in e)

-- what a sketch's net is refused for, the design is
pub net-refused : (flat : Flattened) (signals : List Signal) (s : Sketch) → state_bits flat.signals ≤ MAX_STATE_BITS → (IsFlattened flat → IsDesignOf (flat_of flat) signals s)
    → (fault : Fault) → IsNetRefusedFor signals s fault → IsRefusedFor flat fault
net-refused flat signals s few design fault (IsNetRefusedFor.loop number told) = IsRefusedFor.loop few number (λ is. told (flat_of flat) (design is))
net-refused flat signals s few design fault (IsNetRefusedFor.cells limit told) = IsRefusedFor.cells few limit (λ is. told (flat_of flat) (design is))
