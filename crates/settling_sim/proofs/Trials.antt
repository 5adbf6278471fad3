-- The words that a step leads to are the model's next values.
use Rattle.std.proofs.Common.{◌≡◌, ◌≢◌, ◌∙◌, ℕ, zero, suc, ◌<◌, ◌≤◌, ◌/◌, ◌%◌, ◌^◌, ◌==◌, Bool, true, false, cond, not, ◌&&◌, ◌||◌, nat_lt, List, [], ◌∷◌, length, map, set, get_or, Contains, Option, Some, None, ◌⊎◌, inl, inr, refl, sym, ap, subst, arith, eqb-true, ltb-true, ltb-false}
use Rattle.std.specs.Prelude.{is_some, unwrap_or, slice_get, All, AllPairs}
use Rattle.std.specs.Option.{option_map_or}
use Rattle.std.proofs.lemmas.Bool.{and_parts, both_ways, eqb-false}
use Rattle.std.proofs.lemmas.List.{length-set}
use Rattle.std.proofs.lemmas.List.Elements.{All-head, All-tail}
use Rattle.std.proofs.lemmas.Option.{slice_get_within}
use Rattle.cdc_base.specs.declared.bit.Bit.{Bit}
use Rattle.cdc_base.specs.declared.signal.Signal.{Signal}
use Rattle.cell_graph.specs.declared.cell.CellId.{CellId}
use Rattle.cell_graph.specs.declared.net.Net.{Net}
use Rattle.cell_graph.specs.declared.net.Reg.{Reg}
use Rattle.cell_graph.specs.Reading.{bit_eq}
use Rattle.cell_graph.specs.Tree.{bit_at}
use Rattle.cell_graph.specs.Values.{AreWordsOf, word_at, reading_of, values_of}
use Rattle.cell_graph.proofs.Bits.{bit_eq-true}
use Rattle.domains.specs.declared.Domains.{Domains}
use Rattle.domains.specs.Assignment.{clock_of}
use Rattle.domains.specs.Fit.{Fit}
use Rattle.cdc_model.specs.declared.record.Given.{Given}
use Rattle.cdc_model.specs.declared.record.Race.{Race}
use Rattle.cdc_model.specs.Nets.{AreAscending, next_cell, is_within, is_register_bit, bit_count, design_of}
use Rattle.cdc_model.specs.Replay.{given_to, race_of}
use Rattle.settling_sim.specs.Reader.{next_with}
use Rattle.settling_sim.specs.Runs.{HasCells, IsRace}
use Rattle.settling_sim.specs.Trial.{register_ticks, take_next, take_given, take_races}
use Rattle.settling_sim.specs.Words.{put_bit}
use Rattle.settling_sim.proofs.Values.{HasPlace, place-of}
use Rattle.settling_sim.proofs.Words.{reading-set, reading-put, word-set_same, word-set_other}

pub pairs-head : {A : Type 0} (R : A → A → Type 0) (x : A) (xs : List A) → AllPairs R (x ∷ xs) → All (R x) xs
pairs-head R x xs h = λ k d l. h zero (suc k) d (omega arith) (omega arith)

pub pairs-tail : {A : Type 0} (R : A → A → Type 0) (x : A) (xs : List A) → AllPairs R (x ∷ xs) → AllPairs R xs
pairs-tail R x xs h = λ i j d l m. h (suc i) (suc j) d (omega arith) (omega arith)

-- ---- registers

pub ascending-tail : (r : Reg) (rs : List Reg) → AreAscending (r ∷ rs) → AreAscending rs
ascending-tail r rs h = λ i j p q l e f. h (suc i) (suc j) p q (omega arith) e f

none-later : (sig : ℕ) (rs : List Reg) → ((j : ℕ) (q : Reg) → slice_get rs j ≡ Some q → sig < q.sig) → next_cell rs sig ≡ None
none-later sig [] h = refl
none-later sig (q ∷ rs) h = go (q.sig == sig) refl (none-later sig rs (λ j p f. h (suc j) p f))
  where
    go : (t : Bool) → (q.sig == sig) ≡ t → next_cell rs sig ≡ None → cond t (Some q.next) (next_cell rs sig) ≡ None
    go true e none = absurd (let l = h zero q refl in let same = eqb-true q.sig sig e in omega arith)
    go false e none = none

pub none-again : (r : Reg) (rs : List Reg) → AreAscending (r ∷ rs) → next_cell rs r.sig ≡ None
none-again r rs h = none-later r.sig rs (λ j q e. h zero (suc j) r q (omega arith) refl e)

-- the word that a signal takes
abbrev pub taken : Domains → List Bool → List ℕ → ℕ → ℕ → Option CellId → ℕ
taken domains ticking values sig word None = word
taken domains ticking values sig word (Some c) = cond (register_ticks domains ticking sig) (word_at values c.0) word

pub next-word : (domains : Domains) (ticking : List Bool) (values : List ℕ) (rs : List Reg) (words : List ℕ) (sig : ℕ) → AreAscending rs → sig < length words
    → word_at (take_next domains ticking values rs words) sig ≡ taken domains ticking values sig (word_at words sig) (next_cell rs sig)
next-word domains ticking values [] words sig h l = refl
next-word domains ticking values (r ∷ rs) words sig h l =
    next-word domains ticking values rs (cond (register_ticks domains ticking r.sig) (set words r.sig (word_at values r.next.0)) words) sig (ascending-tail r rs h) (long (register_ticks domains ticking r.sig))
    ∙ go (r.sig == sig) refl
  where
    long : (t : Bool) → sig < length (cond t (set words r.sig (word_at values r.next.0)) words)
    long true = let n = length-set words r.sig (word_at values r.next.0) in omega arith
    long false = l

    put : (t : Bool) → r.sig ≡ sig → word_at (cond t (set words r.sig (word_at values r.next.0)) words) sig ≡ cond t (word_at values r.next.0) (word_at words sig)
    put true e = subst (λ (k : ℕ). word_at (set words r.sig (word_at values r.next.0)) k ≡ word_at values r.next.0) e (word-set_same words r.sig (word_at values r.next.0) (omega arith))
    put false e = refl

    kept : (t : Bool) → r.sig ≢ sig → word_at (cond t (set words r.sig (word_at values r.next.0)) words) sig ≡ word_at words sig
    kept true ne = word-set_other words r.sig sig (word_at values r.next.0) ne
    kept false ne = refl

    go : (t : Bool) → (r.sig == sig) ≡ t
        → taken domains ticking values sig (word_at (cond (register_ticks domains ticking r.sig) (set words r.sig (word_at values r.next.0)) words) sig) (next_cell rs sig)
        ≡ taken domains ticking values sig (word_at words sig) (cond t (Some r.next) (next_cell rs sig))
    go true e =
        let same = eqb-true r.sig sig e in
        ap (taken domains ticking values sig (word_at (cond (register_ticks domains ticking r.sig) (set words r.sig (word_at values r.next.0)) words) sig))
        (subst (λ (k : ℕ). next_cell rs k ≡ None) same (none-again r rs h))
        ∙ put (register_ticks domains ticking r.sig) same
        ∙ ap (λ k. cond (register_ticks domains ticking k) (word_at values r.next.0) (word_at words sig)) same
    go false e = ap (λ w. taken domains ticking values sig w (next_cell rs sig)) (kept (register_ticks domains ticking r.sig) (eqb-false r.sig sig e))

pub next-length : (domains : Domains) (ticking : List Bool) (values : List ℕ) (rs : List Reg) (words : List ℕ) → length (take_next domains ticking values rs words) ≡ length words
next-length domains ticking values [] words = refl
next-length domains ticking values (r ∷ rs) words =
    next-length domains ticking values rs (cond (register_ticks domains ticking r.sig) (set words r.sig (word_at values r.next.0)) words) ∙ go (register_ticks domains ticking r.sig)
  where
    go : (t : Bool) → length (cond t (set words r.sig (word_at values r.next.0)) words) ≡ length words
    go true = length-set words r.sig (word_at values r.next.0)
    go false = refl

-- ---- inputs

abbrev pub HasSignal : ℕ → Given → Type 0
HasSignal n g = g.sig < n

abbrev pub AreOnce : List Given → Type 0
AreOnce gs = AllPairs (λ (g : Given) (h : Given). g.sig ≢ h.sig) gs

pub absent : (gs : List Given) (b : Bit) (v : Bool) → All (λ (g : Given). b.sig ≢ g.sig) gs → given_to gs b v ≡ v
absent [] b v h = refl
absent (g ∷ gs) b v h = go (g.sig == b.sig) refl (absent gs b v (All-tail (λ (g : Given). b.sig ≢ g.sig) g gs h))
  where
    go : (t : Bool) → (g.sig == b.sig) ≡ t → given_to gs b v ≡ v → cond t ((g.value / 2 ^ b.at) % 2 == 1) (given_to gs b v) ≡ v
    go true e rest = absurd (All-head (λ (g : Given). b.sig ≢ g.sig) g gs h (sym (eqb-true g.sig b.sig e)))
    go false e rest = rest

pub given-reading : (gs : List Given) (words : List ℕ) (a : Bit) → All (HasSignal (length words)) gs → AreOnce gs
    → reading_of (take_given gs words) a ≡ given_to gs a (reading_of words a)
given-reading [] words a h once = refl
given-reading (g ∷ gs) words a h once =
    given-reading gs (set words g.sig g.value) a (subst (λ (n : ℕ). All (HasSignal n) gs) (sym (length-set words g.sig g.value)) (All-tail (HasSignal (length words)) g gs h)) (pairs-tail (λ (g : Given) (h : Given). g.sig ≢ h.sig) g gs once)
    ∙ ap (given_to gs a) (reading-set words g.sig g.value a (All-head (HasSignal (length words)) g gs h))
    ∙ go (g.sig == a.sig) refl
  where
    go : (t : Bool) → (g.sig == a.sig) ≡ t → given_to gs a (cond t (bit_at g.value a.at) (reading_of words a)) ≡ cond t ((g.value / 2 ^ a.at) % 2 == 1) (given_to gs a (reading_of words a))
    go true e = absent gs a (bit_at g.value a.at) (λ k d l f. pairs-head (λ (g : Given) (h : Given). g.sig ≢ h.sig) g gs once k d l (eqb-true g.sig a.sig e ∙ f))
    go false e = refl

pub given-length : (gs : List Given) (words : List ℕ) → length (take_given gs words) ≡ length words
given-length [] words = refl
given-length (g ∷ gs) words = given-length gs (set words g.sig g.value) ∙ length-set words g.sig g.value

-- ---- races

abbrev pub AreOfEach : List Race → Type 0
AreOfEach rs = AllPairs (λ (r : Race) (q : Race). r.bit ≢ q.bit) rs

-- what a racing bit takes, and any other one
abbrev pub raced : (List Bit → Bit → Bool) → Bit → Bool → Option Race → Bool
raced next x v None = v
raced next x v (Some r) = next r.flip x

pub no-race : (rs : List Race) (x : Bit) → All (λ (r : Race). x ≢ r.bit) rs → race_of rs x ≡ None
no-race [] x h = refl
no-race (r ∷ rs) x h = go (bit_eq r.bit x) refl (no-race rs x (All-tail (λ (r : Race). x ≢ r.bit) r rs h))
  where
    go : (t : Bool) → bit_eq r.bit x ≡ t → race_of rs x ≡ None → cond t (Some r) (race_of rs x) ≡ None
    go true e rest = absurd (All-head (λ (r : Race). x ≢ r.bit) r rs h (sym (bit_eq-true r.bit x e)))
    go false e rest = rest

pub race-reading : (next : List Bit → Bit → Bool) (rs : List Race) (words : List ℕ) (a : Bit) → All (λ (r : Race). HasPlace (length words) r.bit) rs → AreOfEach rs
    → reading_of (take_races next rs words) a ≡ raced next a (reading_of words a) (race_of rs a)
race-reading next [] words a h once = refl
race-reading next (r ∷ rs) words a h once =
    race-reading next rs (put_bit words r.bit (next r.flip r.bit)) a
    (subst (λ (n : ℕ). All (λ (r : Race). HasPlace n r.bit) rs) (sym (length-set words r.bit.sig _)) (All-tail (λ (r : Race). HasPlace (length words) r.bit) r rs h))
    (pairs-tail (λ (r : Race) (q : Race). r.bit ≢ q.bit) r rs once)
    ∙ ap (λ v. raced next a v (race_of rs a)) (let place = All-head (λ (r : Race). HasPlace (length words) r.bit) r rs h in reading-put words r.bit a (next r.flip r.bit) place.0 place.1)
    ∙ go (bit_eq r.bit a) refl
  where
    go : (t : Bool) → bit_eq r.bit a ≡ t → raced next a (cond t (next r.flip r.bit) (reading_of words a)) (race_of rs a) ≡ raced next a (reading_of words a) (cond t (Some r) (race_of rs a))
    go true e =
        let same = bit_eq-true r.bit a e in
        ap (raced next a (next r.flip r.bit)) (no-race rs a (λ k d l f. pairs-head (λ (r : Race) (q : Race). r.bit ≢ q.bit) r rs once k d l (same ∙ f)))
        ∙ ap (next r.flip) same
    go false e = refl

pub race-length : (next : List Bit → Bit → Bool) (rs : List Race) (words : List ℕ) → length (take_races next rs words) ≡ length words
race-length next [] words = refl
race-length next (r ∷ rs) words = race-length next rs (put_bit words r.bit (next r.flip r.bit)) ∙ length-set words r.bit.sig _
