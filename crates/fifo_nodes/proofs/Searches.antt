-- Searches that go on, and what they have found in the end.
use Rattle.std.proofs.Common.{◌≡◌, sym, subst, inl, inr, ◌⊎◌, arith, ℕ, zero, suc, ◌<◌, Bool, true, Some, List, [], ◌∷◌, ◌++◌, Contains}
use Rattle.std.proofs.lemmas.List.Elements.{Contains-push, Contains-push_cases, Contains-append_left, Contains-append_right, Contains-append_cases}
use Rattle.cdc_model.proofs.Ascending.{nothing_in, here, parts, in_map, from_map}
use Rattle.cell_graph.specs.Cells.{Cells}
use Rattle.fifo_terms.specs.Terms as rules
use Rattle.fifo_terms.specs.Terms.{each_below}
use Rattle.gray_pointer.specs.Worklists.{Adds}
use Rattle.fifo_nodes.specs.declared.search.Asked.{Asked}
use Rattle.fifo_nodes.specs.declared.term.Term.{Term}
use Rattle.fifo_nodes.specs.Nodes.{IsOwn}
use Rattle.fifo_nodes.specs.Searches.{Searched, nothing, asked_terms, IsReached, Covers, IsTake, IsSearch}
use Rattle.fifo_nodes.specs.Terms.{term_of, terms_of, AreTerms, IsTermIn}

module _ (g : Cells) where
  pub lifted : (old new : List Term) → ((t : Term) → Contains old t → Contains new t) → (t : rules.Term) → Contains (terms_of g old) t
      → Contains (terms_of g new) t
  lifted old new more t h =
      let k = from_map (term_of g) old t h in
      subst (Contains (terms_of g new)) k.2 (in_map (term_of g) new k.0 (more k.0 k.1))

  still_reached : (n : ℕ) (old new : Searched) → ((q : Asked) → Contains old.met q → Contains new.met q)
      → ((t : Term) → Contains old.terms t → Contains new.terms t)
      → (t : rules.Term) → IsReached g n old t → IsReached g n new t
  still_reached n old new met found t (inl h) = inl (lifted old.terms new.terms found t h)
  still_reached n old new met found t (inr (q, h, l, i)) = inr (q, met q h, l, i)

module _ (g : Cells) (n : ℕ) where
  pub covers_nothing : (s : Searched) → Covers g n [] s s
  covers_nothing s = record {
    met = λ q h. h;
    waits = λ q h. h;
    found = λ t h. h;
    asked = λ q h. inl h;
    only = λ q h. inl h;
    terms = λ t h. inl h;
    all = λ t h. absurd (nothing_in t h);
  }

  pub covers_same : (ts us : List rules.Term) (old new : Searched) → ts ≡ us → Covers g n ts old new → Covers g n us old new
  covers_same ts us old new e c = subst (λ (l : List rules.Term). Covers g n l old new) e c

  pub covers_from : (ts : List rules.Term) (old was new : Searched) → old ≡ was → Covers g n ts old new → Covers g n ts was new
  covers_from ts old was new e c = subst (λ (s : Searched). Covers g n ts s new) e c

  -- first by some terms, and then by others
  pub covers_then : (ts us : List rules.Term) (a b c : Searched) → Covers g n ts a b → Covers g n us b c → Covers g n (ts ++ us) a c
  covers_then ts us a b c f s = record {
    met = λ q h. s.met q (f.met q h);
    waits = λ q h. s.waits q (f.waits q h);
    found = λ t h. s.found t (f.found t h);
    asked = λ q h. asked q (s.asked q h);
    only = λ q h. only q (s.only q h);
    terms = λ t h. terms t (s.terms t h);
    all = λ t h. all t (Contains-append_cases ts us t h);
  }
    where
      earlier : (q : Asked)
          → Contains a.met q ⊎ (Contains b.left q × IsOwn g q.node × ((t : rules.Term) → Contains (asked_terms g q) t → Contains ts t))
          → Contains a.met q ⊎ (Contains c.left q × IsOwn g q.node × ((t : rules.Term) → Contains (asked_terms g q) t → Contains (ts ++ us) t))
      earlier q (inl h) = inl h
      earlier q (inr h) = inr (s.waits q h.0, h.1, λ t i. Contains-append_left ts us t (h.2 t i))

      asked : (q : Asked)
          → Contains b.met q ⊎ (Contains c.left q × IsOwn g q.node × ((t : rules.Term) → Contains (asked_terms g q) t → Contains us t))
          → Contains a.met q ⊎ (Contains c.left q × IsOwn g q.node × ((t : rules.Term) → Contains (asked_terms g q) t → Contains (ts ++ us) t))
      asked q (inl h) = earlier q (f.asked q h)
      asked q (inr h) = inr (h.0, h.1, λ t i. Contains-append_right ts us t (h.2 t i))

      before : (q : Asked) → Contains a.left q ⊎ Contains b.met q → Contains a.left q ⊎ Contains c.met q
      before q (inl h) = inl h
      before q (inr h) = inr (s.met q h)

      only : (q : Asked) → Contains b.left q ⊎ Contains c.met q → Contains a.left q ⊎ Contains c.met q
      only q (inl h) = before q (f.only q h)
      only q (inr h) = inr h

      sooner : (t : Term) → Contains a.terms t ⊎ (IsTermIn g t × Contains ts (term_of g t))
          → Contains a.terms t ⊎ (IsTermIn g t × Contains (ts ++ us) (term_of g t))
      sooner t (inl h) = inl h
      sooner t (inr h) = inr (h.0, Contains-append_left ts us (term_of g t) h.1)

      terms : (t : Term) → Contains b.terms t ⊎ (IsTermIn g t × Contains us (term_of g t))
          → Contains a.terms t ⊎ (IsTermIn g t × Contains (ts ++ us) (term_of g t))
      terms t (inl h) = sooner t (f.terms t h)
      terms t (inr h) = inr (h.0, Contains-append_right ts us (term_of g t) h.1)

      all : (t : rules.Term) → Contains ts t ⊎ Contains us t → IsReached g n c t
      all t (inl h) = still_reached g n b c s.met s.found t (f.all t h)
      all t (inr h) = s.all t h

  -- one term is added
  pub covers_term : (old new : Searched) (t : Term) → new.met ≡ old.met → new.left ≡ old.left → new.terms ≡ old.terms ++ t ∷ [] → IsTermIn g t
      → Covers g n (term_of g t ∷ []) old new
  covers_term old new t m l e is = record {
    met = λ q h. subst (λ (x : List Asked). Contains x q) (sym m) h;
    waits = λ q h. subst (λ (x : List Asked). Contains x q) (sym l) h;
    found = λ u h. subst (λ (x : List Term). Contains x u) (sym e) (Contains-append_left old.terms (t ∷ []) u h);
    asked = λ q h. inl (subst (λ (x : List Asked). Contains x q) m h);
    only = λ q h. inl (subst (λ (x : List Asked). Contains x q) l h);
    terms = λ u h. terms u (Contains-push_cases old.terms t u (subst (λ (x : List Term). Contains x u) e h));
    all = λ u h. all u (parts (term_of g t) [] u h);
  }
    where
      terms : (u : Term) → Contains old.terms u ⊎ (t ≡ u) → Contains old.terms u ⊎ (IsTermIn g u × Contains (term_of g t ∷ []) (term_of g u))
      terms u (inl h) = inl h
      terms u (inr s) = inr (subst (IsTermIn g) s is, subst (λ (x : Term). Contains (term_of g t ∷ []) (term_of g x)) s (here (term_of g t) []))

      added : Contains (terms_of g new.terms) (term_of g t)
      added = in_map (term_of g) new.terms t (subst (λ (x : List Term). Contains x t) (sym e) (Contains-push old.terms t))

      all : (u : rules.Term) → (term_of g t ≡ u) ⊎ Contains [] u → IsReached g n new u
      all u (inl s) = inl (subst (Contains (terms_of g new.terms)) s added)
      all u (inr h) = absurd (nothing_in u h)

  -- a node is asked for
  pub covers_asked : (eq : Asked → Asked → Bool) → ((a b : Asked) → eq a b ≡ true → a ≡ b) → (old new : Searched) (q : Asked)
      → Adds eq q old.met old.left new.met new.left
      → new.terms ≡ old.terms → IsOwn g q.node → q.node.cell.0 < n → Covers g n (asked_terms g q) old new
  covers_asked eq tells old new q a e own l = record {
    met = a.kept;
    waits = a.waits;
    found = λ t h. subst (λ (x : List Term). Contains x t) (sym e) h;
    asked = λ p h. asked p (a.added p h);
    only = a.only;
    terms = λ t h. inl (subst (λ (x : List Term). Contains x t) e h);
    all = λ t h. inr (q, there, l, h);
  }
    where
      there : Contains new.met q
      there = let (z, i, s) = a.there in subst (Contains new.met) (sym (tells q z s)) i

      asked : (p : Asked) → Contains old.met p ⊎ (Contains new.left p × (p ≡ q))
          → Contains old.met p ⊎ (Contains new.left p × IsOwn g p.node × ((t : rules.Term) → Contains (asked_terms g p) t → Contains (asked_terms g q) t))
      asked p (inl h) = inl h
      asked p (inr (h, s)) =
          inr (h, subst (λ (x : Asked). IsOwn g x.node) (sym s) own, λ t i. subst (λ (x : Asked). Contains (asked_terms g x) t) s i)

-- ---- the walk

module _ (g : Cells) (ts : List rules.Term) where
  pub search_starts : (n : ℕ) (s : Searched) → Covers g n ts nothing s → IsSearch g ts s
  search_starts n s c = record {
    own = λ q h. own q (c.asked q h);
    within = λ q h. within q (c.only q h);
    sought = λ q t h i. sought q t i (c.asked q h);
    found = λ t h. found t (c.terms t h);
    start = λ t h. (n, c.all t h);
    done = λ q h. done q (c.asked q h);
  }
    where
      own : (q : Asked) → Contains [] q ⊎ (Contains s.left q × IsOwn g q.node × ((t : rules.Term) → Contains (asked_terms g q) t → Contains ts t))
          → IsOwn g q.node
      own q (inl h) = absurd (nothing_in q h)
      own q (inr h) = h.1

      within : (q : Asked) → Contains [] q ⊎ Contains s.met q → Contains s.met q
      within q (inl h) = absurd (nothing_in q h)
      within q (inr h) = h

      sought : (q : Asked) (t : rules.Term) → Contains (asked_terms g q) t
          → Contains [] q ⊎ (Contains s.left q × IsOwn g q.node × ((t : rules.Term) → Contains (asked_terms g q) t → Contains ts t)) → Contains ts t
      sought q t i (inl h) = absurd (nothing_in q h)
      sought q t i (inr h) = h.2 t i

      found : (t : Term) → Contains [] t ⊎ (IsTermIn g t × Contains ts (term_of g t)) → IsTermIn g t × Contains ts (term_of g t)
      found t (inl h) = absurd (nothing_in t h)
      found t (inr h) = h

      done : (q : Asked) → Contains [] q ⊎ (Contains s.left q × IsOwn g q.node × ((t : rules.Term) → Contains (asked_terms g q) t → Contains ts t))
          → Contains s.left q ⊎ ((t : rules.Term) → Contains (asked_terms g q) t → IsReached g q.node.cell.0 s t)
      done q (inl h) = absurd (nothing_in q h)
      done q (inr h) = inl h.0

  -- the node that is taken was met
  pub taken_met : (s mid : Searched) (q : Asked) → IsSearch g ts s → IsTake s mid (Some q) → Contains s.met q
  taken_met s mid q so k = so.within q (subst (λ (l : List Asked). Contains l q) (sym k.left) (Contains-push mid.left q))

  pub search_goes_on : (s mid new : Searched) (q : Asked) → IsSearch g ts s → IsTake s mid (Some q)
      → Covers g q.node.cell.0 (asked_terms g q) mid new → IsSearch g ts new
  search_goes_on s mid new q so k c = record {
    own = λ p h. own p (c.asked p h);
    within = λ p h. within p (c.only p h);
    sought = λ p t h i. sought p t i (c.asked p h);
    found = λ t h. found t (c.terms t h);
    start = λ t h. let r = so.start t h in (r.0, later r.0 t r.1);
    done = λ p h. done p (c.asked p h);
  }
    where
      met_before : (p : Asked) → Contains mid.met p → Contains s.met p
      met_before p h = subst (λ (l : List Asked). Contains l p) k.met h

      met_after : (p : Asked) → Contains s.met p → Contains new.met p
      met_after p h = c.met p (subst (λ (l : List Asked). Contains l p) (sym k.met) h)

      found_after : (t : Term) → Contains s.terms t → Contains new.terms t
      found_after t h = c.found t (subst (λ (l : List Term). Contains l t) (sym k.terms) h)

      later : (n : ℕ) (t : rules.Term) → IsReached g n s t → IsReached g n new t
      later n t r = still_reached g n s new met_after found_after t r

      met : Contains s.met q
      met = taken_met s mid q so k

      own : (p : Asked)
          → Contains mid.met p ⊎ (Contains new.left p × IsOwn g p.node × ((t : rules.Term) → Contains (asked_terms g p) t → Contains (asked_terms g q) t)) → IsOwn g p.node
      own p (inl h) = so.own p (met_before p h)
      own p (inr h) = h.1

      within : (p : Asked) → Contains mid.left p ⊎ Contains new.met p → Contains new.met p
      within p (inl h) = met_after p
          (so.within p (subst (λ (l : List Asked). Contains l p) (sym k.left) (Contains-append_left mid.left (q ∷ []) p h)))
      within p (inr h) = h

      sought : (p : Asked) (t : rules.Term) → Contains (asked_terms g p) t
          → Contains mid.met p ⊎ (Contains new.left p × IsOwn g p.node × ((t : rules.Term) → Contains (asked_terms g p) t → Contains (asked_terms g q) t)) → Contains ts t
      sought p t i (inl h) = so.sought p t (met_before p h) i
      sought p t i (inr h) = so.sought q t met (h.2 t i)

      found : (t : Term) → Contains mid.terms t ⊎ (IsTermIn g t × Contains (asked_terms g q) (term_of g t))
          → IsTermIn g t × Contains ts (term_of g t)
      found t (inl h) = so.found t (subst (λ (l : List Term). Contains l t) k.terms h)
      found t (inr h) = (h.0, so.sought q (term_of g t) met h.1)

      taken : (p : Asked) → Contains mid.left p ⊎ (q ≡ p)
          → Contains new.left p ⊎ ((t : rules.Term) → Contains (asked_terms g p) t → IsReached g p.node.cell.0 new t)
      taken p (inl h) = inl (c.waits p h)
      taken p (inr e) = inr (subst (λ (x : Asked). (t : rules.Term) → Contains (asked_terms g x) t → IsReached g x.node.cell.0 new t) e c.all)

      before : (p : Asked) → Contains s.left p ⊎ ((t : rules.Term) → Contains (asked_terms g p) t → IsReached g p.node.cell.0 s t)
          → Contains new.left p ⊎ ((t : rules.Term) → Contains (asked_terms g p) t → IsReached g p.node.cell.0 new t)
      before p (inl h) = taken p (Contains-push_cases mid.left q p (subst (λ (l : List Asked). Contains l p) k.left h))
      before p (inr f) = inr (λ t i. later p.node.cell.0 t (f t i))

      done : (p : Asked)
          → Contains mid.met p ⊎ (Contains new.left p × IsOwn g p.node × ((t : rules.Term) → Contains (asked_terms g p) t → Contains (asked_terms g q) t))
          → Contains new.left p ⊎ ((t : rules.Term) → Contains (asked_terms g p) t → IsReached g p.node.cell.0 new t)
      done p (inl h) = before p (so.done p (met_before p h))
      done p (inr h) = inl h.0

  -- nothing is left
  module _ (s : Searched) (so : IsSearch g ts s) (empty : s.left ≡ []) where
    below : (n : ℕ) (q : Asked) → Contains s.met q → q.node.cell.0 < n → (t : rules.Term) → Contains (asked_terms g q) t
        → Contains (terms_of g s.terms) t
    below zero q h l t i = absurd (omega arith)
    below (suc n) q h l t i = go (so.done q h) (below n)
      where
        reached : IsReached g q.node.cell.0 s t
            → ((p : Asked) → Contains s.met p → p.node.cell.0 < n → (u : rules.Term) → Contains (asked_terms g p) u → Contains (terms_of g s.terms) u) → Contains (terms_of g s.terms) t
        reached (inl k) ih = k
        reached (inr (p, m, lower, j)) ih = ih p m (omega arith) t j

        go : Contains s.left q ⊎ ((t : rules.Term) → Contains (asked_terms g q) t → IsReached g q.node.cell.0 s t)
            → ((p : Asked) → Contains s.met p → p.node.cell.0 < n → (u : rules.Term) → Contains (asked_terms g p) u → Contains (terms_of g s.terms) u) → Contains (terms_of g s.terms) t
        go (inl k) ih = absurd (nothing_in q (subst (λ (l : List Asked). Contains l q) empty k))
        go (inr f) ih = reached (f t i) ih

    all : (t : rules.Term) → (n : ℕ) × IsReached g n s t → Contains (terms_of g s.terms) t
    all t (n, inl h) = h
    all t (n, inr (q, m, l, i)) = below (suc q.node.cell.0) q m (omega arith) t i

    only : (t : rules.Term) → Contains (terms_of g s.terms) t → Contains ts t
    only t h = let k = from_map (term_of g) s.terms t h in subst (Contains ts) k.2 (so.found k.0 k.1).1

    pub search_ends : (end : Searched) → end.terms ≡ s.terms → AreTerms g ts end.terms
    search_ends end e = subst (AreTerms g ts) (sym e) (record { within = λ t h. (so.found t h).0; all = λ t h. all t (so.start t h); only = only })
