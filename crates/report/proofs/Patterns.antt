-- Patterns are matched piece by piece, each where it first begins.
use Rattle.std.proofs.Common.{◌≡◌, ◌∙◌, ℕ, ◌+◌, ◌==◌, Bool, true, false, not, ◌&&◌, ◌||◌, cond, List, [], ◌∷◌, ◌++◌, length, take, drop, Option, Some, None, ap, sym, refl, append_assoc, eqb-true, eq-eqb}
use Rattle.std.specs.Prelude.{nat_eq, option_map, MatchOption}
use Rattle.std.specs.Borrow.{Bor}
use Rattle.std.specs.Cmp.Lexicographic.{pointwise}
use Rattle.std.specs.Str.{bytes_eq}
use Rattle.std.specs.List.{list_all}
use Rattle.report.specs.Greedy.{behind, first_behind, has_star, or_later}
use Rattle.report.specs.Waived.{after_byte, after_run, matches}

abbrev pub on_some : (List ℕ → Bool) → Option (List ℕ) → Bool
on_some passes None = false
on_some passes (Some rest) = passes rest

abbrev pub no_space : List ℕ → Bool
no_space run = list_all (λ b. not (b == 32)) run

or-left : (a b : Bool) → (a || b) ≡ false → a ≡ false
or-left true b h = h
or-left false b h = refl

or-right : (a b : Bool) → (a || b) ≡ false → b ≡ false
or-right true b h = cc
or-right false b h = h

and-left : (a b : Bool) → (a && b) ≡ true → a ≡ true
and-left true b h = refl
and-left false b h = h

and-right : (a b : Bool) → (a && b) ≡ true → b ≡ true
and-right true b h = h
and-right false b h = cc

and-both : (a b : Bool) → a ≡ true → b ≡ true → (a && b) ≡ true
and-both true b h k = k
and-both false b h k = h

or-second : (a b : Bool) → b ≡ true → (a || b) ≡ true
or-second true b h = refl
or-second false b h = h

absorbed : (a b : Bool) → (b ≡ true → a ≡ true) → (a || b) ≡ a
absorbed true b h = refl
absorbed false true h = sym (h refl)
absorbed false false h = refl

pub same-test : (a b : Bool) → (a ≡ true → b ≡ true) → (b ≡ true → a ≡ true) → a ≡ b
same-test true b h k = sym (h refl)
same-test false true h k = k refl
same-test false false h k = refl

eq-turned : (b c : ℕ) → (b == c) ≡ nat_eq c b
eq-turned b c = same-test (b == c) (c == b) (λ h. eq-eqb c b (sym (eqb-true b c h))) (λ h. eq-eqb b c (sym (eqb-true c b h)))

-- a front that a slice strips
pub behind-strip : (f l : List ℕ) → behind f l ≡ cond (pointwise nat_eq (take (length f) l) f) (Some (drop (length f) l)) None
behind-strip [] l = refl
behind-strip (c ∷ cs) [] = refl
behind-strip (c ∷ cs) (b ∷ bs) = go (b == c) (behind-strip cs bs)
  where
    go : (t : Bool) → behind cs bs ≡ cond (pointwise nat_eq (take (length cs) bs) cs) (Some (drop (length cs) bs)) None
        → cond t (behind cs bs) None ≡ cond (t && pointwise nat_eq (take (length cs) bs) cs) (Some (drop (length cs) bs)) None
    go true e = e
    go false e = refl

pub strip-gives : (o : Option (Bor (List ℕ))) (f l : List ℕ)
    → MatchOption o (pointwise nat_eq (take (length f) l) f ≡ false)
    (λ x. (pointwise nat_eq (take (length f) l) f ≡ true) × (x.now ≡ drop (length f) l) × (length x.now + length f ≡ length l))
    → option_map (λ r. r.now) o ≡ behind f l
strip-gives None f l h = sym (behind-strip f l ∙ ap (λ t. cond t (Some (drop (length f) l)) None) h)
strip-gives (Some x) f l h = ap Some h.1 ∙ sym (behind-strip f l ∙ ap (λ t. cond t (Some (drop (length f) l)) None) h.0)

no-star : (c : ℕ) (p line : List ℕ) → (c == 42) ≡ false → matches (c ∷ p) line ≡ after_byte c (matches p) line
no-star c p line h = ap (λ t. (cond t (after_run (matches p)) (after_byte c (matches p))) line) h

-- a piece without a star stands in the line as it is
pub matches-behind : (piece q line : List ℕ) → has_star piece ≡ false → matches (piece ++ q) line ≡ on_some (matches q) (behind piece line)
matches-behind [] q line h = refl
matches-behind (c ∷ cs) q [] h = no-star c (cs ++ q) [] (or-left (c == 42) (has_star cs) h)
matches-behind (c ∷ cs) q (b ∷ bs) h =
    no-star c (cs ++ q) (b ∷ bs) (or-left (c == 42) (has_star cs) h)
    ∙ ap (λ t. (b == c) && t) (matches-behind cs q bs (or-right (c == 42) (has_star cs) h))
    ∙ go (b == c)
  where
    go : (t : Bool) → (t && on_some (matches q) (behind cs bs)) ≡ on_some (matches q) (cond t (behind cs bs) None)
    go true = refl
    go false = refl

-- a pattern without a star is the line itself
pub matches-same : (tail line : List ℕ) → has_star tail ≡ false → matches tail line ≡ bytes_eq tail line
matches-same [] [] h = refl
matches-same [] (b ∷ bs) h = refl
matches-same (c ∷ cs) [] h = no-star c cs [] (or-left (c == 42) (has_star cs) h)
matches-same (c ∷ cs) (b ∷ bs) h =
    no-star c cs (b ∷ bs) (or-left (c == 42) (has_star cs) h)
    ∙ ap (λ t. (b == c) && t) (matches-same cs bs (or-right (c == 42) (has_star cs) h))
    ∙ ap (λ t. t && bytes_eq cs bs) (eq-turned b c)

after-same : (f g : List ℕ → Bool) → ((l : List ℕ) → f l ≡ g l) → (line : List ℕ) → after_run f line ≡ after_run g line
after-same f g same [] = same []
after-same f g same (b ∷ bs) =
    ap (λ t. t || (not (b == 32) && after_run f bs)) (same (b ∷ bs)) ∙ ap (λ t. g (b ∷ bs) || (not (b == 32) && t)) (after-same f g same bs)

pub after-tail : (tail line : List ℕ) → has_star tail ≡ false → after_run (bytes_eq tail) line ≡ after_run (matches tail) line
after-tail tail line h = after-same (bytes_eq tail) (matches tail) (λ l. sym (matches-same tail l h)) line

behind-split : (piece line rest : List ℕ) → behind piece line ≡ Some rest → line ≡ piece ++ rest
behind-split [] line rest h = cc
behind-split (c ∷ cs) [] rest h = cc
behind-split (c ∷ cs) (b ∷ bs) rest h = go (b == c) refl h (behind-split cs bs rest)
  where
    go : (t : Bool) → (b == c) ≡ t → cond t (behind cs bs) None ≡ Some rest → (behind cs bs ≡ Some rest → bs ≡ cs ++ rest) → b ∷ bs ≡ c ∷ (cs ++ rest)
    go true e k split = ap (λ n. n ∷ bs) (eqb-true b c e) ∙ ap (λ l. c ∷ l) (split k)
    go false e k split = cc

no_space-push : (x : List ℕ) (c : ℕ) → no_space x ≡ true → not (c == 32) ≡ true → no_space (x ++ c ∷ []) ≡ true
no_space-push [] c h k = and-both (not (c == 32)) true k refl
no_space-push (b ∷ x) c h k =
    and-both (not (b == 32)) (no_space (x ++ c ∷ [])) (and-left (not (b == 32)) (no_space x) h) (no_space-push x c (and-right (not (b == 32)) (no_space x) h) k)

-- where the piece stands again, behind a run, what follows it first is a run and what follows it there
shifted : (piece run later rest : List ℕ) → no_space run ≡ true → run ++ (piece ++ later) ≡ piece ++ rest → (y : List ℕ) × (no_space y ≡ true) × (rest ≡ y ++ later)
shifted [] run later rest h e = (run, h, sym e)
shifted (c ∷ cs) [] later rest h e = shifted cs [] later rest refl (let tail : cs ++ later ≡ cs ++ rest = cc in tail)
shifted (c ∷ cs) (b ∷ run) later rest h e =
    let head : b ≡ c = cc in
    let tail : run ++ (c ∷ (cs ++ later)) ≡ cs ++ rest = cc in
    shifted cs (run ++ c ∷ []) later rest
    (no_space-push run c (and-right (not (b == 32)) (no_space run) h) (ap (λ n. not (n == 32)) (sym head) ∙ and-left (not (b == 32)) (no_space run) h))
    (append_assoc run (c ∷ []) (cs ++ later) ∙ tail)

first-split : (piece line rest : List ℕ) → first_behind piece line ≡ Some rest → (x : List ℕ) × (no_space x ≡ true) × (line ≡ x ++ (piece ++ rest))
first-split piece [] rest h = ([], refl, behind-split piece [] rest h)
first-split piece (b ∷ bs) rest h = go (behind piece (b ∷ bs)) refl h (first-split piece bs rest)
  where
    none : (t : Bool) → (b == 32) ≡ t → cond t None (first_behind piece bs) ≡ Some rest
        → (first_behind piece bs ≡ Some rest → (x : List ℕ) × (no_space x ≡ true) × (bs ≡ x ++ (piece ++ rest)))
        → (x : List ℕ) × (no_space x ≡ true) × (b ∷ bs ≡ x ++ (piece ++ rest))
    none true e k split = cc
    none false e k split =
        let more = split k in
        (b ∷ more.0, and-both (not (b == 32)) (no_space more.0) (ap not e) more.1, ap (λ l. b ∷ l) more.2)

    go : (o : Option (List ℕ)) → behind piece (b ∷ bs) ≡ o → or_later o b (first_behind piece bs) ≡ Some rest
        → (first_behind piece bs ≡ Some rest → (x : List ℕ) × (no_space x ≡ true) × (bs ≡ x ++ (piece ++ rest)))
        → (x : List ℕ) × (no_space x ≡ true) × (b ∷ bs ≡ x ++ (piece ++ rest))
    go None e k split = none (b == 32) refl k split
    go (Some q) e k split = ([], refl, behind-split piece (b ∷ bs) rest (e ∙ k))

kept : (f : List ℕ → Bool) (y rest : List ℕ) → no_space y ≡ true → after_run f rest ≡ true → after_run f (y ++ rest) ≡ true
kept f [] rest h k = k
kept f (b ∷ y) rest h k =
    or-second (f (b ∷ (y ++ rest))) (not (b == 32) && after_run f (y ++ rest))
    (and-both (not (b == 32)) (after_run f (y ++ rest)) (and-left (not (b == 32)) (no_space y) h) (kept f y rest (and-right (not (b == 32)) (no_space y) h) k))

-- a piece and a star are met where the piece first begins
pub first-piece : (piece p line : List ℕ) → has_star piece ≡ false → after_run (matches (piece ++ 42 ∷ p)) line ≡ on_some (after_run (matches p)) (first_behind piece line)
first-piece piece p [] h = matches-behind piece (42 ∷ p) [] h
first-piece piece p (b ∷ bs) h =
    ap (λ t. t || (not (b == 32) && after_run (matches (piece ++ 42 ∷ p)) bs)) (matches-behind piece (42 ∷ p) (b ∷ bs) h)
    ∙ ap (λ t. on_some (after_run (matches p)) (behind piece (b ∷ bs)) || (not (b == 32) && t)) (first-piece piece p bs h)
    ∙ go (behind piece (b ∷ bs)) refl
  where
    later : (rest : List ℕ) → behind piece (b ∷ bs) ≡ Some rest → (o : Option (List ℕ)) → first_behind piece bs ≡ o → not (b == 32) ≡ true → on_some (after_run (matches p)) o ≡ true
        → after_run (matches p) rest ≡ true
    later rest e None is blank k = cc
    later rest e (Some further) is blank k =
        let found = first-split piece bs further is in
        let run = shifted piece (b ∷ found.0) further rest (and-both (not (b == 32)) (no_space found.0) blank found.1)
        (ap (λ l. b ∷ l) (sym found.2) ∙ behind-split piece (b ∷ bs) rest e) in
        ap (after_run (matches p)) run.2 ∙ kept (matches p) run.0 further run.1 k

    none : (t : Bool) (o : Option (List ℕ)) → (not t && on_some (after_run (matches p)) o) ≡ on_some (after_run (matches p)) (cond t None o)
    none true o = refl
    none false o = refl

    go : (o : Option (List ℕ)) → behind piece (b ∷ bs) ≡ o
        → (on_some (after_run (matches p)) o || (not (b == 32) && on_some (after_run (matches p)) (first_behind piece bs))) ≡ on_some (after_run (matches p)) (or_later o b (first_behind piece bs))
    go None e = none (b == 32) (first_behind piece bs)
    go (Some rest) e =
        absorbed (after_run (matches p) rest) (not (b == 32) && on_some (after_run (matches p)) (first_behind piece bs))
        (λ k. later rest e (first_behind piece bs) refl (and-left (not (b == 32)) (on_some (after_run (matches p)) (first_behind piece bs)) k)
        (and-right (not (b == 32)) (on_some (after_run (matches p)) (first_behind piece bs)) k))

-- a piece was found, and the rest of the pattern is matched behind it
pub piece-found : (pattern piece others line : List ℕ) (o : Option (List ℕ)) → pattern ≡ piece ++ 42 ∷ others → has_star piece ≡ false → o ≡ first_behind piece line
    → after_run (matches pattern) line ≡ on_some (after_run (matches others)) o
piece-found pattern piece others line o is h found =
    ap (λ p. after_run (matches p) line) is ∙ first-piece piece others line h ∙ ap (on_some (after_run (matches others))) (sym found)

pub front-found : (pattern piece others line : List ℕ) (o : Option (List ℕ)) → pattern ≡ piece ++ 42 ∷ others → has_star piece ≡ false → o ≡ behind piece line
    → matches pattern line ≡ on_some (after_run (matches others)) o
front-found pattern piece others line o is h found =
    ap (λ p. matches p line) is ∙ matches-behind piece (42 ∷ others) line h ∙ ap (on_some (after_run (matches others))) (sym found)
