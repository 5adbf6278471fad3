-- Data of records by names, and the documents that they are.
use Rattle.std.proofs.Common.{◌≡◌, ◌≢◌, ◌∙◌, ◌||◌, Bool, true, false, List, [], ◌∷◌, ◌++◌, map, Option, Some, None, Ok, refl, sym, ap, ap₂, rules, bytes_eq}
use Rattle.std.specs.Prelude.{codes, if◌then◌else◌}
use Rattle.std.specs.List.{AllByRecursion, list_any}
use Rattle.std.proofs.lemmas.Slice.Eq.{bytes_eq-Decides}
use Rattle.serde_json.specs.Data.{Data, number, string, array, object, unsigned, Members, no_members, member}
use Rattle.serde_json.specs.View.{items_of}
use Rattle.clock_constraints.specs.Refusals.{Text, ◌>>=◌, unless}
use Rattle.run_file.specs.declared.document.Document.{Document}
use Rattle.run_file.specs.declared.document.Entry.{Entry}
use Rattle.run_file.specs.declared.document.RaceEntry.{RaceEntry}
use Rattle.run_file.specs.declared.document.StepEntry.{StepEntry}
use Rattle.run_file.specs.Shapes as shapes
use Rattle.run_file.specs.Shapes.{document, is_again, races_of, repeated, steps_of}
use Rattle.run_file.specs.Values.{entries_of, texts_of, wrong_shape}

abbrev pub texts_data : List Text → Data
texts_data ts = array (items_of (map string ts))

abbrev pub other_data : Option (List Text) → Members → Members
other_data None ms = ms
other_data (Some ts) ms = member (codes "else") (texts_data ts) ms

abbrev pub race_data : RaceEntry → Data
race_data r = object (member (codes "bit") (string r.bit) (other_data r.other (member (codes "flip") (texts_data r.flip) no_members)))

-- numbers by their names
abbrev pub numbers_data : List Entry → Members
numbers_data [] = no_members
numbers_data (e ∷ es) = member e.name (number (unsigned e.value)) (numbers_data es)

abbrev pub step_data : StepEntry → Data
step_data s = object (member (codes "edges") (texts_data s.edges) (member (codes "inputs") (object (numbers_data s.inputs)) (member (codes "races") (array (items_of (map race_data s.races))) no_members)))

abbrev pub steps_data : List StepEntry → Data
steps_data ss = object (member (codes "steps") (array (items_of (map step_data ss))) no_members)

texts-are : (ts : List Text) → texts_of (items_of (map string ts)) ≡ Ok ts
texts-are [] = refl
texts-are (t ∷ ts) = ap (λ r. r >>= (λ us. Ok (t ∷ us))) (texts-are ts)

numbers-are : (es : List Entry) → entries_of (numbers_data es) ≡ Ok es
numbers-are [] = refl
numbers-are (e ∷ es) = ap (λ r. r >>= (λ fs. Ok (e ∷ fs))) (numbers-are es)

abbrev made : Text → List Text → Option (List Text) → RaceEntry
made bit flip other = record { bit = bit; flip = flip; other = other }

race-is : (r : RaceEntry) → shapes.race (race_data r) ≡ Ok r
race-is r = go r.other
  where
    go : (o : Option (List Text)) → shapes.race (race_data (record r { other = o })) ≡ Ok (record r { other = o })
    go None = ap (λ x. x >>= (λ flip. Ok (made r.bit flip None))) (texts-are r.flip)
    go (Some ts) =
        ap₂ (λ x y. x >>= (λ flip. (y >>= (λ us. Ok (Some us))) >>= (λ other. Ok (made r.bit flip other)))) (texts-are r.flip) (texts-are ts)

races-are : (rs : List RaceEntry) → races_of (items_of (map race_data rs)) ≡ Ok rs
races-are [] = refl
races-are (r ∷ rs) = ap₂ (λ x y. x >>= (λ q. y >>= (λ qs. Ok (q ∷ qs)))) (race-is r) (races-are rs)

-- ---- bits that stand once

-- no two texts are one
abbrev pub Differ : List Text → Type 0
Differ [] = Unit {0}
Differ (t ∷ ts) = AllByRecursion (λ u. t ≢ u) ts × Differ ts

unequal : (t u : Text) → t ≢ u → bytes_eq u t ≡ false
unequal t u ne = go (bytes_eq u t) refl
  where
    same : bytes_eq u t ≡ true → u ≡ t
    same e = search (rules, bytes_eq-Decides)

    go : (v : Bool) → bytes_eq u t ≡ v → bytes_eq u t ≡ false
    go true e = absurd (ne (sym (same e)))
    go false e = e

-- a text differs from all of the list
absent : (t : Text) (us : List Text) → AllByRecursion (λ u. u ≢ t) us → list_any (bytes_eq t) us ≡ false
absent t [] h = refl
absent t (u ∷ us) h = ap₂ (λ a b. a || b) (unequal u t h.0) (absent t us h.1)

abbrev FarFrom : List Text → Text → Type 0
FarFrom us t = AllByRecursion (λ u. u ≢ t) us

far-more : (us : List Text) (v t : Text) → FarFrom us t → v ≢ t → FarFrom (us ++ v ∷ []) t
far-more [] v t h ne = (ne, tt)
far-more (u ∷ us) v t h ne = (h.0, far-more us v t h.1 ne)

all-further : (before : List Text) (v : Text) (ts : List Text) → AllByRecursion (FarFrom before) ts → AllByRecursion (λ t. v ≢ t) ts → AllByRecursion (FarFrom (before ++ v ∷ [])) ts
all-further before v [] h k = tt
all-further before v (t ∷ ts) h k = (far-more before v t h.0 k.0, all-further before v ts h.1 k.1)

never-again : (before ts : List Text) → AllByRecursion (FarFrom before) ts → Differ ts → is_again before ts ≡ false
never-again before [] far d = refl
never-again before (t ∷ ts) far d = ap₂ (λ a b. a || b) (absent t before far.0) (never-again (before ++ t ∷ []) ts (all-further before t ts far.1 d.0) d.1)

none-near : (ts : List Text) → AllByRecursion (FarFrom []) ts
none-near [] = tt
none-near (t ∷ ts) = (tt, none-near ts)

once : (rs : List RaceEntry) → Differ (map (λ r. r.bit) rs) → repeated rs ≡ None
once rs d = ap (λ v. if v then Some wrong_shape else None) (never-again [] (map (λ r. r.bit) rs) (none-near (map (λ r. r.bit) rs)) d)

-- ---- steps

pub step-is : (s : StepEntry) → Differ (map (λ r. r.bit) s.races) → shapes.step (step_data s) ≡ Ok s
step-is s d =
    ap (λ x. x >>= (λ edges. entries_of (numbers_data s.inputs) >>= (λ inputs. (races_of (items_of (map race_data s.races)) >>= shapes.distinct) >>= (λ races. Ok (all edges inputs races))))) (texts-are s.edges)
    ∙ ap (λ x. x >>= (λ inputs. (races_of (items_of (map race_data s.races)) >>= shapes.distinct) >>= (λ races. Ok (all s.edges inputs races)))) (numbers-are s.inputs)
    ∙ ap (λ x. (x >>= shapes.distinct) >>= (λ races. Ok (all s.edges s.inputs races))) (races-are s.races)
    ∙ ap (λ o. unless o (Ok s.races) >>= (λ races. Ok (all s.edges s.inputs races))) (once s.races d)
  where
    all : List Text → List Entry → List RaceEntry → StepEntry
    all edges inputs races = record { edges = edges; inputs = inputs; races = races }

steps-are : (ss : List StepEntry) → AllByRecursion (λ (s : StepEntry). Differ (map (λ r. r.bit) s.races)) ss → steps_of (items_of (map step_data ss)) ≡ Ok ss
steps-are [] h = refl
steps-are (s ∷ ss) h = ap₂ (λ x y. x >>= (λ k. y >>= (λ ks. Ok (k ∷ ks)))) (step-is s h.0) (steps-are ss h.1)

-- steps whose races are of other bits each are a document without start values
pub document-shaped : (ss : List StepEntry) → AllByRecursion (λ (s : StepEntry). Differ (map (λ r. r.bit) s.races)) ss
    → document (steps_data ss) ≡ Ok (record { start = []; steps = ss })
document-shaped ss h = ap (λ x. x >>= (λ ks. Ok (whole ks))) (steps-are ss h)
  where
    whole : List StepEntry → Document
    whole ks = record { start = []; steps = ks }
