-- The cycles that bits need after a step are the model's.
use Rattle.std.proofs.Common.{◌≡◌, ◌≢◌, ◌∙◌, ℕ, zero, suc, ◌+◌, ◌-◌, ◌*◌, ◌/◌, ◌%◌, ◌<◌, ◌≤◌, ◌==◌, Bool, true, false, cond, not, ◌&&◌, ◌||◌, List, [], ◌∷◌, length, set, get_or, Option, Some, None, refl, sym, ap, ap₂, subst, arith, eqb-true}
use Rattle.std.specs.Prelude.{is_some, unwrap_or, slice_get, All}
use Rattle.std.proofs.lemmas.Bool.{eqb-false}
use Rattle.std.proofs.lemmas.List.{length-set, get_or-set_same, get_or-set_other}
use Rattle.std.proofs.lemmas.List.Elements.{All-head, All-tail}
use Rattle.std.proofs.lemmas.Option.{unwrap_or-slice_get}
use Rattle.cdc_base.specs.declared.bit.Bit.{Bit}
use Rattle.cell_graph.specs.declared.cell.CellId.{CellId}
use Rattle.cell_graph.specs.declared.net.Reg.{Reg}
use Rattle.cell_graph.specs.Reading.{bit_eq}
use Rattle.cell_graph.specs.Tree.{bit_at}
use Rattle.cell_graph.proofs.Bits.{bit_eq-true}
use Rattle.domains.specs.declared.Domains.{Domains}
use Rattle.cdc_model.specs.declared.record.Race.{Race}
use Rattle.cdc_model.specs.Nets.{next_cell}
use Rattle.cdc_model.specs.Replay.{race_of}
use Rattle.settling_sim.specs.declared.cycles.Cycles.{Cycles}
use Rattle.settling_sim.specs.Cycles.{settled, digit, count_at, cycles_at, cycles_of, with_count, put_cycles}
use Rattle.settling_sim.specs.Trial.{register_ticks, settle, unsettle}
use Rattle.settling_sim.proofs.Trials.{pairs-head, pairs-tail, no-race, AreOfEach}
use Rattle.settling_sim.proofs.Values.{HasPlace}
use Rattle.settling_sim.proofs.Words.{bit-with}

cycles-get : (cs : List Cycles) (sig : ℕ) → cycles_at cs sig ≡ get_or cs sig settled
cycles-get cs sig = unwrap_or-slice_get cs sig settled

-- where a list ends, bits are settled
settled-set : (cs : List Cycles) (sig : ℕ) → cycles_at (set cs sig settled) sig ≡ settled
settled-set [] sig = refl
settled-set (c ∷ cs) zero = refl
settled-set (c ∷ cs) (suc sig) = settled-set cs sig

cycles-set_same : (cs : List Cycles) (sig : ℕ) (c : Cycles) → sig < length cs → cycles_at (set cs sig c) sig ≡ c
cycles-set_same cs sig c h = cycles-get (set cs sig c) sig ∙ get_or-set_same cs sig c settled h

cycles-set_other : (cs : List Cycles) (sig other : ℕ) (c : Cycles) → sig ≢ other → cycles_at (set cs sig c) other ≡ cycles_at cs other
cycles-set_other cs sig other c ne = cycles-get (set cs sig c) other ∙ get_or-set_other cs sig other c settled (λ e. ne (sym e)) ∙ sym (cycles-get cs other)

-- a number below 4 is its two digits
digits-are : (n : ℕ) → n < 4 → digit (n % 2 == 1) + 2 * digit (n / 2 % 2 == 1) ≡ n
digits-are zero h = refl
digits-are (suc zero) h = refl
digits-are (suc (suc zero)) h = refl
digits-are (suc (suc (suc zero))) h = refl
digits-are (suc (suc (suc (suc n)))) h = absurd (omega arith)

count-with : (c : Cycles) (at i n : ℕ) → at < 64 → n < 4 → count_at (with_count c at n) i ≡ cond (at == i) n (count_at c i)
count-with c at i n h l =
    ap₂ (λ v w. digit v + 2 * digit w) (bit-with c.low at i (n % 2 == 1) h) (bit-with c.high at i (n / 2 % 2 == 1) h) ∙ go (at == i)
  where
    go : (t : Bool) → digit (cond t (n % 2 == 1) (bit_at c.low i)) + 2 * digit (cond t (n / 2 % 2 == 1) (bit_at c.high i)) ≡ cond t n (count_at c i)
    go true = digits-are n l
    go false = refl

-- a bit whose number is put has it, and the others keep theirs
pub cycles-put : (cs : List Cycles) (b a : Bit) (n : ℕ) → b.sig < length cs → b.at < 64 → n < 4 → cycles_of (put_cycles cs b n) a ≡ cond (bit_eq b a) n (cycles_of cs a)
cycles-put cs b a n h l m = go (b.sig == a.sig) refl
  where
    go : (t : Bool) → (b.sig == a.sig) ≡ t → count_at (cycles_at (put_cycles cs b n) a.sig) a.at ≡ cond (t && (b.at == a.at)) n (cycles_of cs a)
    go true e =
        let same = eqb-true b.sig a.sig e in
        ap (λ c. count_at c a.at) (subst (λ (k : ℕ). cycles_at (put_cycles cs b n) k ≡ with_count (cycles_at cs b.sig) b.at n) same (cycles-set_same cs b.sig (with_count (cycles_at cs b.sig) b.at n) h))
        ∙ count-with (cycles_at cs b.sig) b.at a.at n l m ∙ ap (λ k. cond (b.at == a.at) n (count_at (cycles_at cs k) a.at)) same
    go false e = ap (λ c. count_at c a.at) (cycles-set_other cs b.sig a.sig (with_count (cycles_at cs b.sig) b.at n) (eqb-false b.sig a.sig e))

-- ---- registers that tick

abbrev pub settled-at : Bool → Option CellId → Cycles → Cycles
settled-at ticks None c = c
settled-at ticks (Some id) c = cond ticks settled c

pub settle-at : (domains : Domains) (ticking : List Bool) (rs : List Reg) (cs : List Cycles) (sig : ℕ)
    → cycles_at (settle domains ticking rs cs) sig ≡ settled-at (register_ticks domains ticking sig) (next_cell rs sig) (cycles_at cs sig)
settle-at domains ticking [] cs sig = refl
settle-at domains ticking (r ∷ rs) cs sig =
    settle-at domains ticking rs (cond (register_ticks domains ticking r.sig) (set cs r.sig settled) cs) sig ∙ go (r.sig == sig) refl
  where
    put : (t : Bool) → r.sig ≡ sig → cycles_at (cond t (set cs r.sig settled) cs) sig ≡ cond t settled (cycles_at cs sig)
    put true e = subst (λ (k : ℕ). cycles_at (set cs r.sig settled) k ≡ settled) e (settled-set cs r.sig)
    put false e = refl

    kept : (t : Bool) → r.sig ≢ sig → cycles_at (cond t (set cs r.sig settled) cs) sig ≡ cycles_at cs sig
    kept true ne = cycles-set_other cs r.sig sig settled ne
    kept false ne = refl

    twice : (t : Bool) (o : Option CellId) → settled-at t o (cond t settled (cycles_at cs sig)) ≡ cond t settled (cycles_at cs sig)
    twice t None = refl
    twice true (Some id) = refl
    twice false (Some id) = refl

    go : (t : Bool) → (r.sig == sig) ≡ t
        → settled-at (register_ticks domains ticking sig) (next_cell rs sig) (cycles_at (cond (register_ticks domains ticking r.sig) (set cs r.sig settled) cs) sig)
        ≡ settled-at (register_ticks domains ticking sig) (cond t (Some r.next) (next_cell rs sig)) (cycles_at cs sig)
    go true e =
        let same = eqb-true r.sig sig e in
        ap (settled-at (register_ticks domains ticking sig) (next_cell rs sig))
        (put (register_ticks domains ticking r.sig) same ∙ ap (λ k. cond (register_ticks domains ticking k) settled (cycles_at cs sig)) same)
        ∙ twice (register_ticks domains ticking sig) (next_cell rs sig)
    go false e = ap (settled-at (register_ticks domains ticking sig) (next_cell rs sig)) (kept (register_ticks domains ticking r.sig) (eqb-false r.sig sig e))

pub settle-length : (domains : Domains) (ticking : List Bool) (rs : List Reg) (cs : List Cycles) → length (settle domains ticking rs cs) ≡ length cs
settle-length domains ticking [] cs = refl
settle-length domains ticking (r ∷ rs) cs = settle-length domains ticking rs (cond (register_ticks domains ticking r.sig) (set cs r.sig settled) cs) ∙ go (register_ticks domains ticking r.sig)
  where
    go : (t : Bool) → length (cond t (set cs r.sig settled) cs) ≡ length cs
    go true = length-set cs r.sig settled
    go false = refl

-- ---- races with other bits

-- the number of a bit with a race, by what is needed where it has other bits
abbrev pub unsettled-by : (Bit → ℕ) → Bit → ℕ → Option Race → ℕ
unsettled-by needed x n None = n
unsettled-by needed x n (Some r) = cond (is_some r.other) (needed x) n

pub unsettle-of : (needed : Bit → ℕ) (rs : List Race) (cs : List Cycles) (a : Bit) → All (λ (r : Race). HasPlace (length cs) r.bit) rs → AreOfEach rs → ((x : Bit) → needed x < 4)
    → cycles_of (unsettle needed rs cs) a ≡ unsettled-by needed a (cycles_of cs a) (race_of rs a)
unsettle-of needed [] cs a h once small = refl
unsettle-of needed (r ∷ rs) cs a h once small = go (is_some r.other) refl
    (unsettle-of needed rs (put_cycles cs r.bit (needed r.bit)) a (subst (λ (n : ℕ). All (λ (r : Race). HasPlace n r.bit) rs) (sym (length-set cs r.bit.sig _)) (All-tail (λ (r : Race). HasPlace (length cs) r.bit) r rs h))
    (pairs-tail (λ (r : Race) (q : Race). r.bit ≢ q.bit) r rs once) small)
    (unsettle-of needed rs cs a (All-tail (λ (r : Race). HasPlace (length cs) r.bit) r rs h) (pairs-tail (λ (r : Race) (q : Race). r.bit ≢ q.bit) r rs once) small)
  where
    place : HasPlace (length cs) r.bit
    place = All-head (λ (r : Race). HasPlace (length cs) r.bit) r rs h

    alone : r.bit ≡ a → race_of rs a ≡ None
    alone same = no-race rs a (λ k d l f. pairs-head (λ (r : Race) (q : Race). r.bit ≢ q.bit) r rs once k d l (same ∙ f))

    put : (v : Bool) → bit_eq r.bit a ≡ v → is_some r.other ≡ true
        → unsettled-by needed a (cond v (needed r.bit) (cycles_of cs a)) (race_of rs a) ≡ unsettled-by needed a (cycles_of cs a) (cond v (Some r) (race_of rs a))
    put true f e =
        let same = bit_eq-true r.bit a f in
        ap (unsettled-by needed a (needed r.bit)) (alone same) ∙ ap needed same ∙ sym (ap (λ t. cond t (needed a) (cycles_of cs a)) e)
    put false f e = refl

    kept : (v : Bool) → bit_eq r.bit a ≡ v → is_some r.other ≡ false
        → unsettled-by needed a (cycles_of cs a) (race_of rs a) ≡ unsettled-by needed a (cycles_of cs a) (cond v (Some r) (race_of rs a))
    kept true f e = ap (unsettled-by needed a (cycles_of cs a)) (alone (bit_eq-true r.bit a f)) ∙ sym (ap (λ t. cond t (needed a) (cycles_of cs a)) e)
    kept false f e = refl

    go : (t : Bool) → is_some r.other ≡ t
        → (cycles_of (unsettle needed rs (put_cycles cs r.bit (needed r.bit))) a ≡ unsettled-by needed a (cycles_of (put_cycles cs r.bit (needed r.bit)) a) (race_of rs a))
        → (cycles_of (unsettle needed rs cs) a ≡ unsettled-by needed a (cycles_of cs a) (race_of rs a))
        → cycles_of (unsettle needed rs (cond t (put_cycles cs r.bit (needed r.bit)) cs)) a ≡ unsettled-by needed a (cycles_of cs a) (cond (bit_eq r.bit a) (Some r) (race_of rs a))
    go true e one other =
        one ∙ ap (λ n. unsettled-by needed a n (race_of rs a)) (cycles-put cs r.bit a (needed r.bit) place.0 place.1 (small r.bit)) ∙ put (bit_eq r.bit a) refl e
    go false e one other = other ∙ kept (bit_eq r.bit a) refl e

pub unsettle-length : (needed : Bit → ℕ) (rs : List Race) (cs : List Cycles) → length (unsettle needed rs cs) ≡ length cs
unsettle-length needed [] cs = refl
unsettle-length needed (r ∷ rs) cs = unsettle-length needed rs (cond (is_some r.other) (put_cycles cs r.bit (needed r.bit)) cs) ∙ go (is_some r.other)
  where
    go : (t : Bool) → length (cond t (put_cycles cs r.bit (needed r.bit)) cs) ≡ length cs
    go true = length-set cs r.bit.sig _
    go false = refl
