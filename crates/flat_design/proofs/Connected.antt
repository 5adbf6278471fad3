-- What connections leave of a design: names, how many signals there are, and their ranges.
use Rattle.std.proofs.Common.{◌≡◌, ℕ, zero, suc, ◌+◌, ◌^◌, ◌<◌, ◌≤◌, true, false, List, [], ◌∷◌, length, Option, Some, None, refl, sym, ap, subst, ◌∙◌, rules}
use Rattle.std.specs.Prelude.{slice_get, option_map}
use Rattle.cdc_base.specs.declared.signal.ResetPin.{ResetPin}
use Rattle.flat_meaning.specs.Flat.{Expr, Target}
use Rattle.flat_form.specs.Sizes.{is_word}
use Rattle.flat_unfolding.specs.Names.{Names, Meaning, a_param, a_signal, a_memory, no_value, Entry, width_of, meaning_in}
use Rattle.flat_unfolding.specs.Instances.{Link, into, out_of, resolving_to, into_port, out_of_port, connect_one, connect_all, connected}
use Rattle.flat_unfolding.specs.Design.{Design, Stage, look_of, change_entry}
use Rattle.flat_unfolding.proofs.Steps.{some_is}
use Rattle.flat_unfolding.proofs.Entries.{same_length}
use Rattle.flat_names.specs.Looks.{IsFit}

-- as many signals as before, of the same ranges
pub record AreRangedAlike (es fs : List Entry) : Type 0 where
  pub count : length fs ≡ length es
  pub ranges : (s : ℕ) → option_map (λ (e : Entry). e.range) (slice_get fs s) ≡ option_map (λ (e : Entry). e.range) (slice_get es s)

alike-itself : (es : List Entry) → AreRangedAlike es es
alike-itself es = record { count = refl; ranges = λ s. refl }

alike-then : (es fs gs : List Entry) → AreRangedAlike es fs → AreRangedAlike fs gs → AreRangedAlike es gs
alike-then es fs gs h k = record { count = k.count ∙ h.count; ranges = λ s. k.ranges s ∙ h.ranges s }

changed-ranges : (f : Entry → Entry) → ((e : Entry) → (f e).range ≡ e.range) → (t : ℕ) (es : List Entry) (s : ℕ)
    → option_map (λ (e : Entry). e.range) (slice_get (change_entry f t es) s) ≡ option_map (λ (e : Entry). e.range) (slice_get es s)
changed-ranges f k t [] s = refl
changed-ranges f k zero (e ∷ es) zero = ap Some (k e)
changed-ranges f k zero (e ∷ es) (suc s) = refl
changed-ranges f k (suc t) (e ∷ es) zero = refl
changed-ranges f k (suc t) (e ∷ es) (suc s) = changed-ranges f k t es s

-- ---- connections

into-alike : (d : Design) (v : Expr) (r : Option ResetPin) (m : Option Meaning) → AreRangedAlike d.entries (into_port d v r m).entries
into-alike d v r None = alike-itself d.entries
into-alike d v r (Some (a_param p)) = alike-itself d.entries
into-alike d v r (Some (a_signal s)) = record {
  count = same_length (resolving_to r) s d.entries;
  ranges = changed-ranges (resolving_to r) (λ a. refl) s d.entries;
}
into-alike d v r (Some (a_memory a)) = alike-itself d.entries
into-alike d v r (Some no_value) = alike-itself d.entries

out-alike : (d : Design) (t : Target) (m : Option Meaning) → AreRangedAlike d.entries (out_of_port d t m).entries
out-alike d t None = alike-itself d.entries
out-alike d t (Some (a_param p)) = alike-itself d.entries
out-alike d t (Some (a_signal s)) = alike-itself d.entries
out-alike d t (Some (a_memory a)) = alike-itself d.entries
out-alike d t (Some no_value) = alike-itself d.entries

pub one-alike : (names : Names) (d : Design) (link : Link) → AreRangedAlike d.entries (connect_one names d link).entries
one-alike names d (into x v r) = into-alike d v r (meaning_in names x)
one-alike names d (out_of x t) = out-alike d t (meaning_in names x)

pub all-alike : (names : Names) (d : Design) (links : List Link) → AreRangedAlike d.entries (connect_all names d links).entries
all-alike names d [] = alike-itself d.entries
all-alike names d (link ∷ links) =
    let e = connect_one names d link in alike-then d.entries e.entries (connect_all names e links).entries (one-alike names d link) (all-alike names e links)

pub connected-count : (names : Names) (d : Design) (links : List Link) → length (connect_all names d links).entries ≡ length d.entries
connected-count names d links = (all-alike names d links).count

-- ---- what stays fit

pub words-stay : (es fs : List Entry) → AreRangedAlike es fs → ((s : ℕ) (a : Entry) → slice_get es s ≡ Some a → is_word (width_of a.range) ≡ true)
    → (s : ℕ) (b : Entry) → slice_get fs s ≡ Some b → is_word (width_of b.range) ≡ true
words-stay es fs h k s b e = go (slice_get es s) refl (sym (h.ranges s) ∙ ap (option_map (λ (a : Entry). a.range)) e)
  where
    go : (o : Option Entry) → slice_get es s ≡ o → option_map (λ (a : Entry). a.range) o ≡ Some b.range → is_word (width_of b.range) ≡ true
    go None d r = absurd (search (rules, r))
    go (Some a) d r = ap (λ z. is_word (width_of z)) (sym (some_is a.range b.range r)) ∙ k s a d

pub connected-fit : (links : List Link) (s : Stage) → IsFit (look_of s) → IsFit (look_of (connected links s))
connected-fit links s h = fit (connect_all s.names s.design links).entries (all-alike s.names s.design links)
  where
    fit : (fs : List Entry) → AreRangedAlike s.design.entries fs → IsFit (record { names = s.names; entries = fs; active = false })
    fit fs k = record {
      params = h.params;
      signals = λ x i e. subst (λ c. i < c) (sym k.count) (h.signals x i e);
      memories = λ x a e. let m = h.memories x a e in (m.0, subst (λ c. a.first + a.words ≤ c) (sym k.count) m.1);
      entries = words-stay s.design.entries fs k h.entries;
      few = subst (λ c. c ≤ 2 ^ 32) (sym k.count) h.few;
    }
