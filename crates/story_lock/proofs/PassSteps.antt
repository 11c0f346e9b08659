-- Each step on passes keeps the rule: split, watch, join and settle. And the opening meets it.
use Rattle.std.proofs.Common.{◌≡◌, ◌≢◌, ◌⊎◌, ℕ, zero, suc, ◌+◌, ◌≤◌, Bool, List, [], ◌∷◌, ◌++◌, length, set, Option, Some, refl, sym, ap, ◌∙◌, subst, inl, ⊎_elim, arith, length-append}
use Rattle.std.specs.Prelude.{slice_index}
use mathlib.Core.Logic.{dite}
use mathlib.Core.Option as maybe
use mathlib.Core.Option.{some, none, some-injective, some-ne-none}
use native.Mathlib.Decide.{ℕ_discrete}
use lib.ListN.{get_elem?}
use Rattle.atomic_table.specs.Table.{State, Me, Act, step, keeps, Valid, stepped, carried_after, Allows, Splits, Joins, opening}
use Rattle.atomic_table.proofs.Lists.{at_set, at_snoc, set_again}
use Rattle.story_lock.specs.declared.view.View.{View}
use Rattle.story_lock.specs.declared.view.Stage.TheVariants.{Idle}
use Rattle.story_lock.specs.Counts.{times, total, greatest, StartsWith}
use Rattle.story_lock.specs.Rule.{drawn, has_state, drawn_by, held_by, HasKey, fewer, newcomer, met, spent, opening_view, Fits, Kept, Holds, settles}
use Rattle.story_lock.proofs.Sums.{one_at, times_append, total_set, total_snoc, total_at, once_le, once_same, starts_both, times_without, length_without, greatest_in, all_zero, numbers_once, by_length}
use Rattle.story_lock.proofs.Tables.{idle_at, at_lit, each_set, distinct}

module _ {S E A : Type 0} (represents : S → List (E × A) → S → Type 0) (keyed : E → A → Bool) (start : S) (seats : ℕ) where
  abbrev V : Type 0
  V = View S E A

  abbrev St : Type 0
  St = State (Option S) V

  abbrev M : Type 0
  M = Me (Option S) V

  abbrev L : Type 0
  L = List (E × A)

  abbrev H : Type 0
  H = maybe.Option (Option S)

  abbrev Rule : St → Type 0
  Rule = Holds represents keyed start seats

  abbrev K : L → ℕ → ℕ → H → List V → Type 0
  K = Kept represents keyed start seats

  abbrev F : L → ℕ → V → Type 0
  F = Fits represents keyed start seats

  abbrev lit : ℕ → ℕ → L → H → List V → St
  lit t n log home views = record { words = t ∷ n ∷ []; homes = home ∷ []; views = views }

  abbrev Goes : St → ℕ → ℕ → ℕ → M → (ℕ → M → Type 0) → Type 0
  Goes s i new id me then = (w : V) × (a : Act (Option S)) × Valid s.homes me.1 a × Rule (stepped s i new id me.1 w a) × then (slice_index s.words i) (w, carried_after me.1 a)

  -- split and watch
  both_total : (f : V → List ℕ) (views : List V) (id : ℕ) (v w u : V) (k : ℕ) → get_elem? views id ≡ some v
      → total (λ y. times k (f y)) (set views id w ++ u ∷ []) + times k (f v) ≡ (total (λ y. times k (f y)) views + times k (f w)) + times k (f u)
  both_total f views id v w u k at = let a = total_set (λ y. times k (f y)) views id v w at in let b = total_snoc (λ y. times k (f y)) (set views id w) u in omega arith

  new_fits : (log : L) (n : ℕ) (v : V) (numbers : List ℕ) → F log n v → (HasKey (newcomer v numbers) → ⊥) → F log n (newcomer v numbers)
  new_fits log n v numbers f nokey = record {
    opened = f.opened;
    seen = f.seen;
    shorter_seen = (log, refl);
    shorter = omega arith;
    inside = λ i p. absurd (omega arith);
    seated = λ p. absurd (omega arith);
    key = λ has. absurd (nokey has);
    stage = tt;
  }

  forked : (t n : ℕ) (log : L) (home : H) (views : List V) (id : ℕ) (v w : V) (numbers : List ℕ) → K log t n home views → get_elem? views id ≡ some v
      → w.stage ≡ v.stage → w.mine ≡ v.mine → ((i : ℕ) → times i w.numbers + times i numbers ≡ times i v.numbers) → F log n w → (HasKey (newcomer v numbers) → ⊥)
      → K log t n home (set views id w ++ newcomer v numbers ∷ [])
  forked t n log home views id v w numbers k at st mine nums fw nokey = let u : V = newcomer v numbers in
      let held : total held_by (set views id w ++ u ∷ []) ≡ total held_by views = (let a = total_set held_by views id v w at in let b = total_snoc held_by (set views id w) u in omega (arith, ap has_state st)) in record {
        fits = k.fits;
        order = k.order;
        placed = subst (λ (z : ℕ). ((x : S) × (home ≡ some (Some x)) × represents start log x × (z ≡ 0)) ⊎ ((home ≡ none) × (z ≡ 1))) (sym held) k.placed;
        queue = once_same (λ i. total (λ y. times i (drawn_by y)) views) (λ i. total (λ y. times i (drawn_by y)) (set views id w ++ u ∷ [])) n t k.queue
            (λ i. let h = both_total drawn_by views id v w u i at in omega (arith, ap (λ s. times i (drawn s)) st));
        seats_once = once_same (λ i. total (λ y. times i y.numbers) views) (λ i. total (λ y. times i y.numbers) (set views id w ++ u ∷ [])) 0 seats k.seats_once
            (λ i. let h = both_total (λ y. y.numbers) views id v w u i at in let s = nums i in omega arith);
        mine_once = once_same (λ i. total (λ y. times i y.mine) views) (λ i. total (λ y. times i y.mine) (set views id w ++ u ∷ [])) 0 (length log) k.mine_once
            (λ i. let h = both_total (λ y. y.mine) views id v w u i at in omega (arith, ap (times i) mine));
        each = λ j y e. ⊎_elim (λ was. each_set represents keyed start seats log n views id w (λ i z _ e'. k.each i z e') fw j y was) (λ (same : u ≡ y). subst (F log n) same (new_fits log n v numbers (k.each id v at) nokey)) (at_snoc (set views id w) u y j e);
      }

  split_lit : (id : ℕ) (v left right : V) → ((t n : ℕ) (log : L) (home : H) (views : List V) → K log t n home views → get_elem? views id ≡ some v → K log t n home (set views id left ++ right ∷ []))
      → Splits Rule id v left right
  split_lit id v left right law s r at = record { log = r.log; ticket = r.ticket; serving = r.serving; home = r.home; words = r.words; homes = r.homes; kept = law r.ticket r.serving r.log r.home s.views r.kept at }

  fewer_fits : (log : L) (n : ℕ) (v : V) → F log n v → 2 ≤ length v.numbers → F log n (fewer v)
  fewer_fits log n v f two = let g = greatest_in v.numbers (omega arith) in record {
    opened = f.opened;
    seen = f.seen;
    shorter_seen = f.shorter_seen;
    shorter = f.shorter;
    inside = f.inside;
    seated = λ _. let h = length_without (greatest v.numbers) v.numbers g in omega arith;
    key = λ has. f.key (let h = times_without 0 (greatest v.numbers) v.numbers g in omega arith);
    stage = f.stage;
  }

  pub split_ok : (id : ℕ) (v : V) → 2 ≤ length v.numbers → Splits Rule id v (fewer v) (newcomer v (greatest v.numbers ∷ []))
  split_ok id v two = split_lit id v (fewer v) (newcomer v (greatest v.numbers ∷ [])) (λ t n log home views k at.
      let g = greatest_in v.numbers (omega arith) in
      forked t n log home views id v (fewer v) (greatest v.numbers ∷ []) k at refl refl (λ i. times_without i (greatest v.numbers) v.numbers g) (fewer_fits log n v (k.each id v at) two)
      (λ key. ⊎_elim
      (λ (o : (greatest v.numbers ≡ 0) × (times 0 (greatest v.numbers ∷ []) ≡ 1)). let all = all_zero v.numbers o.0 in let le = total_at (λ u. times 0 u.numbers) views id v at in let one = once_le (λ i. total (λ u. times i u.numbers) views) 0 seats k.seats_once 0 in absurd (omega arith))
      (λ (o : (greatest v.numbers ≢ 0) × (times 0 (greatest v.numbers ∷ []) ≡ 0)). let z = o.1 in absurd (omega arith))
      (one_at (greatest v.numbers) 0)))

  pub watch_ok : (id : ℕ) (v : V) → Splits Rule id v v (newcomer v [])
  watch_ok id v = split_lit id v v (newcomer v []) (λ t n log home views k at.
      forked t n log home views id v v [] k at refl refl (λ i. omega arith) (k.each id v at) (λ key. absurd (omega arith)))

  -- join
  abbrev met_as : V → V → L → L → V
  met_as v w seen told = record { opened = v.opened; seen = seen; shorter_seen = told; mine = v.mine ++ w.mine; numbers = v.numbers ++ w.numbers; stage = v.stage }

  met_fits : (log : L) (n : ℕ) (v w : V) (seen told : L) → F log n v → F log n w → v.stage ≡ Idle → StartsWith log seen → StartsWith log told
      → length told ≤ length seen → length v.seen ≤ length seen → length w.seen ≤ length seen → F log n (met_as v w seen told)
  met_fits log n v w seen told f g idle s t less a b = record {
    opened = f.opened;
    seen = s;
    shorter_seen = t;
    shorter = less;
    inside = λ i p. let h = times_append i v.mine w.mine in dite (ℕ_discrete (times i v.mine) 0)
        (λ z. let q = g.inside i (omega arith) in omega arith) (λ nz. let q = f.inside i (omega arith) in omega arith);
    seated = λ p. let h = length-append v.mine w.mine in let l = length-append v.numbers w.numbers in dite (ℕ_discrete (length v.mine) 0)
        (λ z. let q = g.seated (omega arith) in omega arith) (λ nz. let q = f.seated (omega arith) in omega arith);
    key = λ has i e here is. let h = times_append 0 v.numbers w.numbers in let l = times_append i v.mine w.mine in dite (ℕ_discrete (times 0 v.numbers) 0)
        (λ z. let q = g.key (omega arith) i e here is in omega arith) (λ nz. let q = f.key (omega arith) i e here is in omega arith);
    stage = idle_at log seen n v.stage (ap has_state idle);
  }

  fits_met : (log : L) (n : ℕ) (v w : V) → F log n v → F log n w → v.stage ≡ Idle → F log n (met v w)
  fits_met log n v w f g idle = by_length (λ seen told. F log n (met_as v w seen told)) v.seen w.seen
      (λ le. met_fits log n v w w.seen v.seen f g idle g.seen f.seen le le (omega arith))
      (λ gt. met_fits log n v w v.seen w.seen f g idle f.seen g.seen (omega arith) (omega arith) (omega arith))

  fits_spent : (log : L) (n : ℕ) → F log n spent
  fits_spent log n = record {
    opened = tt;
    seen = (log, refl);
    shorter_seen = (log, refl);
    shorter = omega arith;
    inside = λ i p. absurd (omega arith);
    seated = λ p. absurd (omega arith);
    key = λ has. absurd (omega arith);
    stage = tt;
  }

  two_totals : (f : V → ℕ) (views : List V) (id other : ℕ) (v w b : V) → get_elem? views id ≡ some v → get_elem? (set views id b) other ≡ some w
      → (total f (set (set views id b) other spent) + f w) + f v ≡ (total f views + f b) + f spent
  two_totals f views id other v w b at there = let x = total_set f views id v b at in let y = total_set f (set views id b) other w spent there in omega arith

  pub join_ok : (id : ℕ) (v : V) (other : ℕ) (w : V) → v.stage ≡ Idle → w.stage ≡ Idle → Joins Rule id v other w (met v w) spent
  join_ok id v other w idle idle' s r at apart there = let log = r.log in let k = r.kept in let n = r.serving in let views = s.views in let b : V = met v w in
      let at' : get_elem? views other ≡ some w = ⊎_elim (λ (x : (other ≡ id) × (b ≡ w)). absurd (apart x.0)) (λ (x : (other ≢ id) × (get_elem? views other ≡ some w)). x.1) (at_set views id other b w there) in
      let vs : List V = set (set views id b) other spent in
      let held : total held_by vs ≡ total held_by views = (let h = two_totals held_by views id other v w b at there in let z : held_by w ≡ 0 = ap has_state idle' in omega arith) in record {
        log = log;
        ticket = r.ticket;
        serving = n;
        home = r.home;
        words = r.words;
        homes = r.homes;
        kept = record {
          fits = k.fits;
          order = k.order;
          placed = subst (λ (z : ℕ). ((x : S) × (r.home ≡ some (Some x)) × represents start log x × (z ≡ 0)) ⊎ ((r.home ≡ none) × (z ≡ 1))) (sym held) k.placed;
          queue = once_same (λ i. total (λ y. times i (drawn_by y)) views) (λ i. total (λ y. times i (drawn_by y)) vs) n r.ticket k.queue
              (λ i. let h = two_totals (λ y. times i (drawn_by y)) views id other v w b at there in let z : times i (drawn_by w) ≡ 0 = ap (λ st. times i (drawn st)) idle' in omega arith);
          seats_once = once_same (λ i. total (λ y. times i y.numbers) views) (λ i. total (λ y. times i y.numbers) vs) 0 seats k.seats_once
              (λ i. let h = two_totals (λ y. times i y.numbers) views id other v w b at there in let z = times_append i v.numbers w.numbers in omega arith);
          mine_once = once_same (λ i. total (λ y. times i y.mine) views) (λ i. total (λ y. times i y.mine) vs) 0 (length log) k.mine_once
              (λ i. let h = two_totals (λ y. times i y.mine) views id other v w b at there in let z = times_append i v.mine w.mine in omega arith);
          each = each_set represents keyed start seats log n (set views id b) other spent (λ j u _ e. each_set represents keyed start seats log n views id b (λ i x _ e'. k.each i x e') (fits_met log n v w (k.each id v at) (k.each other w at') idle) j u e) (fits_spent log n);
        };
      }

  pub settle_ok : (slots id : ℕ) (me : M) → Allows Rule slots id me 0 (λ x. x) (settles (step slots 0 0 0 none) me)
  settle_ok slots id me = at_lit represents keyed start seats 0 id (λ x. x) me (settles (step slots 0 0 0 none) me) slots (λ t n log home views k at. let f = k.each id me.0 at in (
    me.0,
    keeps,
    tt,
    record { log = log; ticket = t; serving = n; home = home; words = refl; homes = refl; kept = subst (K log t n home) (sym (set_again views id me.0 at)) k },
    (refl, starts_both me.0.seen me.0.shorter_seen f.seen.0 f.shorter_seen.0 (sym f.seen.1 ∙ f.shorter_seen.1) f.shorter, distinct represents keyed start seats t n log home views id me.0 k at),
  ))

  first_fits : (u : V) (j : ℕ) → get_elem? (opening_view start seats ∷ []) j ≡ some u → F [] 0 u
  first_fits u zero e = subst (F [] 0) (some-injective (opening_view start seats) u e) record {
    opened = refl;
    seen = ([], refl);
    shorter_seen = ([], refl);
    shorter = omega arith;
    inside = λ i p. absurd (omega arith);
    seated = λ p. absurd (omega arith);
    key = λ has i x here is. absurd (cc);
    stage = tt;
  }
  first_fits u (suc j) e = absurd (some-ne-none u (sym e))

  pub open_ok : (items : List (Option S)) → items ≡ Some start ∷ [] → represents start [] start → Rule (opening (0 ∷ 0 ∷ []) items (opening_view start seats))
  open_ok items is st = subst (λ (l : List (Option S)). Rule (opening (0 ∷ 0 ∷ []) l (opening_view start seats))) (sym is) record {
    log = [];
    ticket = 0;
    serving = 0;
    home = some (Some start);
    words = refl;
    homes = refl;
    kept = record {
      fits = omega arith;
      order = omega arith;
      placed = inl (start, refl, st, refl);
      queue = record { inside = λ k a b. absurd (omega arith); before = λ k a. refl; after = λ k a. refl };
      seats_once = (let o = numbers_once 0 seats in record { inside = λ k a b. let h = o.inside k a (omega arith) in omega arith; before = λ k a. absurd (omega arith); after = λ k a. let h = o.after k (omega arith) in omega arith });
      mine_once = record { inside = λ k a b. absurd (omega arith); before = λ k a. absurd (omega arith); after = λ k a. refl };
      each = λ j u e. first_fits u j e;
    };
  }
