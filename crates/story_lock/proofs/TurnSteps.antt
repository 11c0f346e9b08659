-- Each step of a turn keeps the rule: draw, look, commit and pass on.
use Rattle.std.proofs.Common.{◌≡◌, ◌≢◌, ◌⊎◌, ℕ, ◌+◌, ◌%◌, ◌^◌, ◌<◌, ◌≤◌, eqb, Bool, true, List, [], ◌∷◌, ◌++◌, length, set, Option, Some, None, refl, sym, ap, ◌∙◌, subst, inl, inr, ⊎_elim, arith, length-append, append-nil}
use Rattle.std.specs.Prelude.{slice_get, slice_index, IfSome}
use mathlib.Core.Logic.{dite}
use mathlib.Core.Option as maybe
use mathlib.Core.Option.{some, none, some-injective, some-ne-none}
use native.Mathlib.Decide.{ℕ_discrete}
use lib.ListN.{get_elem?}
use prog.Atomic.{either}
use Rattle.atomic_table.specs.Table.{State, Me, Act, step, keeps, takes, gives, Valid, stepped, carried_after, Allows}
use Rattle.atomic_table.proofs.Lists.{set_again, exchanged}
use Rattle.story_lock.specs.declared.view.View.{View}
use Rattle.story_lock.specs.declared.view.Stage.{Stage}
use Rattle.story_lock.specs.declared.view.Stage.TheVariants.{Idle, Waits, Served, Done}
use Rattle.story_lock.specs.Counts.{times, total, StartsWith, Once}
use Rattle.story_lock.specs.Rule.{drawn, has_state, number, IsAt, drawn_by, held_by, HasKey, HasSeat, HasAllSeats, at_stage, served, after, Fits, Kept, Holds, draws, Comes, looks, commits, passes}
use Rattle.story_lock.proofs.Sums.{one_at, times_here, times_append, total_set, total_at, total_two, total_less, total_none, once_le, once_in, once_up, once_down, starts_length, starts_longer, starts_itself, get_snoc, times_first, times_empty, length_snoc}
use Rattle.story_lock.proofs.Tables.{idle_at, at_lit, each_set, others_idle, same_once, distinct, is_out}

-- who has the state has the number that is served
holds_served : {X : Type 0} (log seen : List X) (n : ℕ) (st : Stage) → IsAt log n seen st → has_state st ≤ times n (drawn st)
holds_served log seen n Idle i = omega arith
holds_served log seen n (Waits t) i = omega arith
holds_served log seen n (Served t) i = subst (λ (z : ℕ). 1 ≤ times z (t ∷ [])) i.0 (omega (arith, times_here t))
holds_served log seen n (Done t) i = subst (λ (z : ℕ). 1 ≤ times z (t ∷ [])) i.0 (omega (arith, times_here t))

if_some : {X : Type 0} (P Q : X → Type 0) (o : Option X) → IfSome o P → ((x : X) → P x → Q x) → IfSome o Q
if_some P Q None p f = tt
if_some P Q (Some x) p f = f x p

module _ {S E A : Type 0} (represents : S → List (E × A) → S → Type 0) (keyed : E → A → Bool) (start : S) (seats : ℕ) where
  abbrev V : Type 0
  V = View S E A

  abbrev St : Type 0
  St = State (Option S) V

  abbrev M : Type 0
  M = Me (Option S) V

  abbrev L : Type 0
  L = List (E × A)

  abbrev H : Type 0
  H = maybe.Option (Option S)

  abbrev Rule : St → Type 0
  Rule = Holds represents keyed start seats

  abbrev K : L → ℕ → ℕ → H → List V → Type 0
  K = Kept represents keyed start seats

  abbrev F : L → ℕ → V → Type 0
  F = Fits represents keyed start seats

  abbrev lit : ℕ → ℕ → L → H → List V → St
  lit t n log home views = record { words = t ∷ n ∷ []; homes = home ∷ []; views = views }

  abbrev Goes : St → ℕ → ℕ → ℕ → M → (ℕ → M → Type 0) → Type 0
  Goes s i new id me then = (w : V) × (a : Act (Option S)) × Valid s.homes me.1 a × Rule (stepped s i new id me.1 w a) × then (slice_index s.words i) (w, carried_after me.1 a)

  -- draw
  restage : (log : L) (n : ℕ) (v : V) (st : Stage) → F log n v → IsAt log n v.seen st → F log n (at_stage v st)
  restage log n v st f i = record { opened = f.opened; seen = f.seen; shorter_seen = f.shorter_seen; shorter = f.shorter; inside = f.inside; seated = f.seated; key = f.key; stage = i }

  drawn_on : (t n : ℕ) (log : L) (home : H) (views : List V) (id : ℕ) (v : V) → K log t n home views → get_elem? views id ≡ some v → v.stage ≡ Idle → t + 1 < 2 ^ 64
      → K log (t + 1) n home (set views id (at_stage v (Waits t)))
  drawn_on t n log home views id v k at idle room = let w : V = at_stage v (Waits t) in
      let held : total held_by (set views id w) ≡ total held_by views = (let h = total_set held_by views id v w at in omega (arith, ap has_state idle)) in record {
        fits = room;
        order = (let o = k.order in omega arith);
        placed = subst (λ (z : ℕ). ((x : S) × (home ≡ some (Some x)) × represents start log x × (z ≡ 0)) ⊎ ((home ≡ none) × (z ≡ 1))) (sym held) k.placed;
        queue = once_up (λ j. total (λ u. times j (drawn_by u)) views) (λ j. total (λ u. times j (drawn_by u)) (set views id w)) n t k.order k.queue
            (λ j. let h = total_set (λ u. times j (drawn_by u)) views id v w at in let e : times j (drawn_by v) ≡ 0 = ap (λ st. times j (drawn st)) idle in omega arith);
        seats_once = same_once represents keyed start seats (λ u. u.numbers) 0 seats views id v w at refl k.seats_once;
        mine_once = same_once represents keyed start seats (λ u. u.mine) 0 (length log) views id v w at refl k.mine_once;
        each = each_set represents keyed start seats log n views id w (λ j u _ e. k.each j u e) (restage log n v (Waits t) (k.each id v at) tt);
      }

  pub draw_ok : (slots id : ℕ) (me : M) (old new : ℕ) → me.0.stage ≡ Idle → old < 18446744073709551615 → new ≡ old + 1
      → Allows Rule slots id me 0 (λ x. either (eqb x old) new x) (draws (step slots 0 old new none) me)
  draw_ok slots id me old new idle room is = at_lit represents keyed start seats 0 id (λ x. either (eqb x old) new x) me (draws (step slots 0 old new none) me) slots (λ t n log home views k at.
      exchanged t old new (λ x. Goes (lit t n log home views) 0 x id me (draws (step slots 0 old new none) me))
      (λ hit. (
        at_stage me.0 (Waits old),
        keeps,
        tt,
        record {
          log = log;
          ticket = new;
          serving = n;
          home = home;
          words = refl;
          homes = refl;
          kept = subst (λ (z : ℕ × ℕ). K log z.0 n home (set views id (at_stage me.0 (Waits z.1)))) (λ i. ((ap (λ (y : ℕ). y + 1) hit ∙ sym is) i, hit i)) (drawn_on t n log home views id me.0 k at idle (omega arith));
        },
        ((λ _. refl), (λ miss. absurd (miss hit))),
      ))
      (λ miss. (
        me.0,
        keeps,
        tt,
        record { log = log; ticket = t; serving = n; home = home; words = refl; homes = refl; kept = subst (K log t n home) (sym (set_again views id me.0 at)) k },
        ((λ hit. absurd (miss hit)), (λ _. refl)),
      )))

  -- what a pass with every seat number has
  no_numbers : (t n : ℕ) (log : L) (home : H) (views : List V) (id : ℕ) (v : V) → K log t n home views → get_elem? views id ≡ some v → HasAllSeats seats v
      → (j : ℕ) (u : V) → j ≢ id → get_elem? views j ≡ some u → length u.mine ≡ 0
  no_numbers t n log home views id v k at all j u apart there = dite (ℕ_discrete (length u.mine) 0) (λ z. z) (λ nz.
      let x = times_first u.numbers ((k.each j u there).seated (omega arith)) in
      let two = total_two (λ y. times x.0 y.numbers) views id j v u (λ e. apart (sym e)) at there in
      let p = x.1 in
      let one = once_le (λ i. total (λ y. times i y.numbers) views) 0 seats k.seats_once x.0 in
      let low = (once_in (λ i. total (λ y. times i y.numbers) views) 0 seats k.seats_once x.0 (omega arith)).1 in
      let mine = all x.0 low in absurd (omega arith))

  whole : (t n : ℕ) (log : L) (home : H) (views : List V) (id : ℕ) (v : V) → K log t n home views → get_elem? views id ≡ some v → HasAllSeats seats v
      → (v.seen ≡ log) × ((i : ℕ) → i < length log → 0 < times i v.mine)
  whole t n log home views id v k at all = (seen_all v.seen (k.each id v at).seen (λ i. (k.each id v at).inside i) mine_all, mine_all)
    where
      mine_all : (i : ℕ) → i < length log → 0 < times i v.mine
      mine_all i low = dite (ℕ_discrete (times i v.mine) 0) (λ z.
          let none = total_none (λ u. times i u.mine) views (λ j u e. dite (ℕ_discrete j id)
          (λ same. let is : u ≡ v = some-injective u v (sym e ∙ (ap (get_elem? views) same ∙ at)) in ap (λ (y : V). times i y.mine) is ∙ z)
          (λ apart. times_empty i u.mine (no_numbers t n log home views id v k at all j u apart e))) in
          let one = k.mine_once.inside i (omega arith) low in absurd (omega arith)) (λ nz. omega arith)

      seen_all : (seen : L) → StartsWith log seen → ((i : ℕ) → 0 < times i v.mine → i < length seen) → ((i : ℕ) → i < length log → 0 < times i v.mine) → seen ≡ log
      seen_all seen ([], e) inside mine = sym (append-nil seen) ∙ sym e
      seen_all seen (x ∷ xs, e) inside mine = let len : length log ≡ length seen + length (x ∷ xs) = ap length e ∙ length-append seen (x ∷ xs) in
          let h = inside (length seen) (mine (length seen) (omega arith)) in absurd (omega arith)

  -- look
  none_served : (t n : ℕ) (log : L) (home : H) (views : List V) (id : ℕ) (v : V) → K log t n home views → get_elem? views id ≡ some v → v.stage ≡ Waits n → total held_by views ≡ 0
  none_served t n log home views id v k at waits =
      let less = total_less held_by (λ u. times n (drawn_by u)) views id v (λ j u e. holds_served log u.seen n u.stage (k.each j u e).stage) at in
      let one = once_le (λ i. total (λ u. times i (drawn_by u)) views) n t k.queue n in
      let a : times n (drawn_by v) ≡ 1 = ap (λ st. times n (drawn st)) waits ∙ times_here n in
      let b : held_by v ≡ 0 = ap has_state waits in omega arith

  served_fits : (log : L) (n : ℕ) (v : V) → F log n v → F log n (served v log n)
  served_fits log n v f = record {
    opened = f.opened;
    seen = starts_itself log log refl;
    shorter_seen = f.shorter_seen;
    shorter = starts_length log v.shorter_seen f.shorter_seen;
    inside = λ i p. let a = f.inside i p in let b = starts_length log v.seen f.seen in omega arith;
    seated = f.seated;
    key = f.key;
    stage = (refl, refl);
  }

  served_on : (t n : ℕ) (log : L) (home : H) (views : List V) (id : ℕ) (v : V) → K log t n home views → get_elem? views id ≡ some v → v.stage ≡ Waits n
      → K log t n none (set views id (served v log n))
  served_on t n log home views id v k at waits = let w : V = served v log n in record {
    fits = k.fits;
    order = k.order;
    placed = inr (refl, let h = total_set held_by views id v w at in let z = none_served t n log home views id v k at waits in let b : held_by v ≡ 0 = ap has_state waits in omega arith);
    queue = same_once represents keyed start seats drawn_by n t views id v w at (sym (ap drawn waits)) k.queue;
    seats_once = same_once represents keyed start seats (λ u. u.numbers) 0 seats views id v w at refl k.seats_once;
    mine_once = same_once represents keyed start seats (λ u. u.mine) 0 (length log) views id v w at refl k.mine_once;
    each = each_set represents keyed start seats log n views id w (λ j u _ e. k.each j u e) (served_fits log n v (k.each id v at));
  }

  comes : (t n : ℕ) (log : L) (home : H) (views : List V) (id : ℕ) (me : M) (x : S) → K log t n home views → get_elem? views id ≡ some me.0 → represents start log x
      → Comes represents keyed n me (served me.0 log n, (0, Some x) ∷ me.1)
  comes t n log home views id me x k at st = let f = k.each id me.0 at in (
    log,
    x,
    refl,
    f.seen,
    f.inside,
    distinct represents keyed start seats t n log home views id me.0 k at,
    if_some (λ a. a ≡ (start, seats)) (λ a. represents a.0 log x × (HasAllSeats a.1 me.0 → (me.0.seen ≡ log) × ((i : ℕ) → i < length log → 0 < times i me.0.mine))) me.0.opened f.opened
        (λ a e. (subst (λ (z : S). represents z log x) (sym (ap (λ y. y.0) e)) st, λ all. whole t n log home views id me.0 k at (subst (λ (z : ℕ). HasAllSeats z me.0) (ap (λ y. y.1) e) all))),
    f.key,
  )

  pub look_ok : (slots id : ℕ) (me : M) (mine : ℕ) → me.0.stage ≡ Waits mine → Allows Rule slots id me 1 (λ x. x) (looks represents keyed (step slots 1 0 0 none) me)
  look_ok slots id me mine waits = at_lit represents keyed start seats 1 id (λ x. x) me (looks represents keyed (step slots 1 0 0 none) me) slots (λ t n log home views k at.
      let num : number me.0.stage ≡ mine = ap number waits in
      dite (ℕ_discrete n mine)
      (λ hit. let here : me.0.stage ≡ Waits n = waits ∙ ap Waits (sym hit) in ⊎_elim
      (λ (p : (x : S) × (home ≡ some (Some x)) × represents start log x × (total held_by views ≡ 0)). (
        served me.0 log n,
        takes 0 (Some p.0),
        ap some p.1,
        record { log = log; ticket = t; serving = n; home = none; words = refl; homes = refl; kept = served_on t n log home views id me.0 k at here },
        ((λ _. subst (λ (z : ℕ). Comes represents keyed z me (served me.0 log n, (0, Some p.0) ∷ me.1)) (hit ∙ sym num) (comes t n log home views id me p.0 k at p.2)), (λ miss. absurd (miss (hit ∙ sym num)))),
      ))
      (λ (p : (home ≡ none) × (total held_by views ≡ 1)). let z = none_served t n log home views id me.0 k at here in let o = p.1 in absurd (omega arith))
      k.placed)
      (λ miss. (
        me.0,
        keeps,
        tt,
        record { log = log; ticket = t; serving = n; home = home; words = refl; homes = refl; kept = subst (K log t n home) (sym (set_again views id me.0 at)) k },
        ((λ hit. absurd (miss (hit ∙ num))), (λ _. refl)),
      )))

  one_key : (t n : ℕ) (log : L) (home : H) (views : List V) (i j : ℕ) (v u : V) → K log t n home views → get_elem? views i ≡ some v → get_elem? views j ≡ some u → j ≢ i → HasKey v → HasKey u → ⊥
  one_key t n log home views i j v u k at there apart a b =
      let two = total_two (λ y. times 0 y.numbers) views i j v u (λ e. apart (sym e)) at there in
      let one = once_le (λ x. total (λ y. times x y.numbers) views) 0 seats k.seats_once 0 in absurd (omega arith)

  -- commit
  grows : (log : L) (e : E × A) (n : ℕ) (u : V) → F log n u → held_by u ≡ 0 → (keyed e.0 e.1 ≡ true → HasKey u → ⊥) → F (log ++ e ∷ []) n u
  grows log e n u f idle other = record {
    opened = f.opened;
    seen = starts_longer log (e ∷ []) u.seen f.seen;
    shorter_seen = starts_longer log (e ∷ []) u.shorter_seen f.shorter_seen;
    shorter = f.shorter;
    inside = f.inside;
    seated = f.seated;
    key = λ has i x here is. ⊎_elim (λ (p : slice_get log i ≡ Some x). f.key has i x p is)
        (λ (p : (i ≡ length log) × (e ≡ x)). absurd (other (subst (λ (y : E × A). keyed y.0 y.1 ≡ true) (sym p.1) is) has)) (get_snoc log e x i here);
    stage = idle_at (log ++ e ∷ []) u.seen n u.stage idle;
  }

  said_fits : (log : L) (e : E × A) (n : ℕ) (v : V) → F log n v → v.stage ≡ Served n → HasSeat v → F (log ++ e ∷ []) n (after v (e ∷ []) n)
  said_fits log e n v f at seat = let here : (n ≡ n) × (v.seen ≡ log) = subst (IsAt log n v.seen) at f.stage in
      let same : v.seen ++ e ∷ [] ≡ log ++ e ∷ [] = ap (λ l. l ++ e ∷ []) here.1 in
      let len = length_snoc v.seen e in record {
        opened = f.opened;
        seen = starts_itself (log ++ e ∷ []) (v.seen ++ e ∷ []) same;
        shorter_seen = starts_longer log (e ∷ []) v.shorter_seen f.shorter_seen;
        shorter = (let h = f.shorter in omega arith);
        inside = λ i p. let h = times_append i v.mine (length v.seen ∷ []) in ⊎_elim (λ (o : (length v.seen ≡ i) × (times i (length v.seen ∷ []) ≡ 1)). omega (arith, o.0)) (λ (o : (length v.seen ≢ i) × (times i (length v.seen ∷ []) ≡ 0)). let z = o.1 in let q = f.inside i (omega arith) in omega arith) (one_at (length v.seen) i);
        seated = λ _. seat;
        key = λ has i x there is. let h = times_append i v.mine (length v.seen ∷ []) in ⊎_elim (λ (p : slice_get log i ≡ Some x). let q = f.key has i x p is in omega arith)
            (λ (p : (i ≡ length log) × (e ≡ x)). let q : times i (length v.seen ∷ []) ≡ 1 = subst (λ (z : ℕ). times z (length v.seen ∷ []) ≡ 1) (ap length here.1 ∙ sym p.0) (times_here (length v.seen)) in omega arith) (get_snoc log e x i there);
        stage = (refl, same);
      }

  said_on : (t n : ℕ) (log : L) (e : E × A) (home : H) (views : List V) (id : ℕ) (v : V) → K log t n home views → get_elem? views id ≡ some v → v.stage ≡ Served n → HasSeat v → (keyed e.0 e.1 ≡ true → HasKey v)
      → K (log ++ e ∷ []) t n home (set views id (after v (e ∷ []) n))
  said_on t n log e home views id v k at is seat key = let w : V = after v (e ∷ []) n in
      let f = k.each id v at in
      let here : (n ≡ n) × (v.seen ≡ log) = subst (IsAt log n v.seen) is f.stage in
      let one : held_by v ≡ 1 = ap has_state is in
      let out = is_out represents keyed start seats log home views k.placed (let h = total_at held_by views id v at in omega arith) in record {
        fits = k.fits;
        order = k.order;
        placed = inr (out.0, let h = total_set held_by views id v w at in let o = out.1 in omega arith);
        queue = same_once represents keyed start seats drawn_by n t views id v w at (sym (ap drawn is)) k.queue;
        seats_once = same_once represents keyed start seats (λ u. u.numbers) 0 seats views id v w at refl k.seats_once;
        mine_once = subst (Once (λ j. total (λ u. times j u.mine) (set views id w)) 0) (sym (length_snoc log e)) (once_up (λ j. total (λ u. times j u.mine) views) (λ j. total (λ u. times j u.mine) (set views id w)) 0 (length log) (omega arith) k.mine_once
            (λ j. let h = total_set (λ u. times j u.mine) views id v w at in let p = times_append j v.mine (length v.seen ∷ []) in let q : times j (length v.seen ∷ []) ≡ times j (length log ∷ []) = ap (λ (l : L). times j (length l ∷ [])) here.1 in omega arith));
        each = each_set represents keyed start seats (log ++ e ∷ []) n views id w
            (λ j u apart there. grows log e n u (k.each j u there) (others_idle represents keyed start seats views id v (let o = out.1 in omega arith) at one j u apart there) (λ ky has. one_key t n log home views id j v u k at there apart (key ky) has))
            (said_fits log e n v f is seat);
      }

  pub commit_ok : (slots id : ℕ) (me : M) (mine : ℕ) (e : E × A) (es : L) → me.0.stage ≡ Served mine → HasSeat me.0 → (keyed e.0 e.1 ≡ true → HasKey me.0) → es ≡ e ∷ []
      → Allows Rule slots id me 1 (λ x. x) (commits es (step slots 1 0 0 none) me)
  commit_ok slots id me mine e es is seat key just = at_lit represents keyed start seats 1 id (λ x. x) me (commits es (step slots 1 0 0 none) me) slots (λ t n log home views k at.
      let f = k.each id me.0 at in
      let here : (mine ≡ n) × (me.0.seen ≡ log) = subst (IsAt log n me.0.seen) is f.stage in
      let is' : me.0.stage ≡ Served n = is ∙ ap Served here.0 in (
        after me.0 (e ∷ []) n,
        keeps,
        tt,
        record { log = log ++ e ∷ []; ticket = t; serving = n; home = home; words = refl; homes = refl; kept = said_on t n log e home views id me.0 k at is' seat key },
        ap (λ (z : L × ℕ). (after me.0 z.0 z.1, me.1)) (λ i. (sym just i, (sym here.0 ∙ sym (ap number is)) i)),
      ))

  -- pass on
  passes_by : (log : L) (n : ℕ) (u : V) → F log n u → held_by u ≡ 0 → F log (n + 1) u
  passes_by log n u f idle = record { opened = f.opened; seen = f.seen; shorter_seen = f.shorter_seen; shorter = f.shorter; inside = f.inside; seated = f.seated; key = f.key; stage = idle_at log u.seen (n + 1) u.stage idle }

  rests : (log : L) (n : ℕ) (v : V) → F log n v → F log (n + 1) (at_stage v Idle)
  rests log n v f = record { opened = f.opened; seen = f.seen; shorter_seen = f.shorter_seen; shorter = f.shorter; inside = f.inside; seated = f.seated; key = f.key; stage = tt }

  passed_on : (t n : ℕ) (log : L) (home : H) (views : List V) (id : ℕ) (v : V) (x : S) → K log t n home views → get_elem? views id ≡ some v → v.stage ≡ Done n → n < t → represents start log x
      → K log t (n + 1) (some (Some x)) (set views id (at_stage v Idle))
  passed_on t n log home views id v x k at is low st = let w : V = at_stage v Idle in
      let one : held_by v ≡ 1 = ap has_state is in
      let out = is_out represents keyed start seats log home views k.placed (let h = total_at held_by views id v at in omega arith) in record {
        fits = k.fits;
        order = omega arith;
        placed = inl (x, refl, st, let h = total_set held_by views id v w at in let o = out.1 in omega arith);
        queue = once_down (λ j. total (λ u. times j (drawn_by u)) views) (λ j. total (λ u. times j (drawn_by u)) (set views id w)) n t low k.queue
            (λ j. let h = total_set (λ u. times j (drawn_by u)) views id v w at in let e : times j (drawn_by v) ≡ times j (n ∷ []) = ap (λ s. times j (drawn s)) is in omega arith);
        seats_once = same_once represents keyed start seats (λ u. u.numbers) 0 seats views id v w at refl k.seats_once;
        mine_once = same_once represents keyed start seats (λ u. u.mine) 0 (length log) views id v w at refl k.mine_once;
        each = each_set represents keyed start seats log (n + 1) views id w (λ j u apart there. passes_by log n u (k.each j u there) (others_idle represents keyed start seats views id v (let o = out.1 in omega arith) at one j u apart there)) (rests log n v (k.each id v at));
      }

  pub pass_ok : (slots id : ℕ) (me : M) (mine : ℕ) (x : S) → me.1 ≡ (0, Some x) ∷ [] → me.0.stage ≡ Done mine → represents start me.0.seen x
      → Allows Rule slots id me 1 (λ x. (x + 1) % 2 ^ 64) (passes (step slots 1 1 0 none) me)
  pass_ok slots id me mine x held is st = subst (λ (c : List (ℕ × Option S)). Allows Rule slots id (me.0, c) 1 (λ x. (x + 1) % 2 ^ 64) (passes (step slots 1 1 0 none) (me.0, c))) (sym held)
      (at_lit represents keyed start seats 1 id (λ x. (x + 1) % 2 ^ 64) (me.0, (0, Some x) ∷ []) (passes (step slots 1 1 0 none) (me.0, (0, Some x) ∷ [])) slots (λ t n log home views k at.
      let f = k.each id me.0 at in
      let here : (mine ≡ n) × (me.0.seen ≡ log) = subst (IsAt log n me.0.seen) is f.stage in
      let is' : me.0.stage ≡ Done n = is ∙ ap Done here.0 in
      let q : 0 < total (λ u. times n (drawn_by u)) views = (let h = total_at (λ u. times n (drawn_by u)) views id me.0 at in let p : times n (drawn_by me.0) ≡ 1 = ap (λ s. times n (drawn s)) is' ∙ times_here n in omega arith) in
      let low = (once_in (λ i. total (λ u. times i (drawn_by u)) views) n t k.queue n q).1 in
      let room = k.fits in
      let small : (n + 1) % 18446744073709551616 ≡ n + 1 = omega arith in (
        at_stage me.0 Idle,
        gives,
        tt,
        record {
          log = log;
          ticket = t;
          serving = n + 1;
          home = some (Some x);
          words = ap (λ (z : ℕ). t ∷ z ∷ []) small;
          homes = refl;
          kept = passed_on t n log home views id me.0 x k at is' low (subst (λ (l : L). represents start l x) here.1 st);
        },
        refl,
      )))
