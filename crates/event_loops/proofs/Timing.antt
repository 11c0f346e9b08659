-- How passes go together, each at one reading of the loop's clock.
use Rattle.std.proofs.Common.{◌≡◌, ℕ, List, [], ◌∷◌, ◌++◌, refl, sym, ap, ◌∙◌, subst, append_assoc, append-nil, arith}
use Rattle.reply_fields.specs.Parts.{AskParts}
use Rattle.session.specs.Owing.{Steps}
use Rattle.session.specs.Readers.{ReaderView}
use Rattle.session.specs.Serving.{Made}
use Rattle.link_service.specs.Clocks.{AreAt, at_reading, unasked}
use Rattle.link_service.proofs.Timing.{at_append, at_weaker, made_then, made_whenever}
use Rattle.event_loops.specs.declared.links.Links.{Links}
use Rattle.event_loops.specs.Tales.{Act, AreSome, steps_of, asks_of, LoopView, LeadsWith, LeadsBy, GoesOn}
use Rattle.event_loops.specs.Takings.{LeadsTaking}
use Rattle.event_loops.specs.Timing.{ArePasses, IsTimedBy, GoesTimed, clock_over}
use Rattle.event_loops.proofs.Told.{steps_append, counted_any, counted_on, goes_nowhere, goes_on, acts_lead, acts_write}

-- ---- readings

-- no request is at any reading
whatever : (P : ℕ → Type 0) (made : Made) → AreAt (λ at. ⊥) made → AreAt P made
whatever P made none = at_weaker (λ at. ⊥) P (λ at no. absurd no) made none

-- steps without a request before passes
quietly_before : (readings : List ℕ) (xs ys : Made) → AreAt (λ at. ⊥) xs → ArePasses readings ys → ArePasses readings (xs ++ ys)
quietly_before [] xs ys none are = at_append (λ at. ⊥) xs ys none are
quietly_before (now ∷ readings) xs ys none are = (
  xs ++ are.0,
  are.1,
  ap (λ (l : Made). xs ++ l) are.2 ∙ sym (append_assoc xs are.0 are.1),
  at_append (λ at. at ≡ now) xs are.0 (whatever (λ at. at ≡ now) xs none) are.3,
  are.4,
)

passes_then : (readings more : List ℕ) (xs ys : Made) → ArePasses readings xs → ArePasses more ys → ArePasses (readings ++ more) (xs ++ ys)
passes_then [] more xs ys none are = quietly_before more xs ys none are
passes_then (now ∷ readings) more xs ys are rest = (
  are.0,
  are.1 ++ ys,
  ap (λ (l : Made). l ++ ys) are.2 ∙ append_assoc are.0 are.1 ys,
  are.3,
  passes_then readings more are.1 ys are.4 rest,
)

timed_none : (readings : List ℕ) (made : Made) → AreAt (λ at. ⊥) made → IsTimedBy readings made readings
timed_none readings made none = record { readings = []; gave = sym (append-nil readings); passes = none }

timed_one : (old : List ℕ) (now : ℕ) (made : Made) (new : List ℕ) → new ≡ old ++ now ∷ [] → AreAt (λ at. at ≡ now) made → IsTimedBy old made new
timed_one old now made new gave are =
    record { readings = now ∷ []; gave = gave; passes = (made, [], sym (append-nil made), are, tt) }

timed_then : (old mid new : List ℕ) (xs ys : Made) → IsTimedBy old xs mid → IsTimedBy mid ys new → IsTimedBy old (xs ++ ys) new
timed_then old mid new xs ys h k = record {
  readings = h.readings ++ k.readings;
  gave = k.gave ∙ ap (λ (l : List ℕ). l ++ k.readings) h.gave ∙ append_assoc old h.readings k.readings;
  passes = passes_then h.readings k.readings xs ys h.passes k.passes;
}

module _ {C : Type 0} (makes : Steps C) where
  -- ---- acts without a request are at any reading

  pub led_whenever : (now : ℕ) (x y : C) (asks : List AskParts) (low high : ℕ) (P : List Act → Type 0) → LeadsWith (unasked makes) x y asks low high P
      → LeadsWith (at_reading now makes) x y asks low high P
  led_whenever now x y asks low high P h =
      record { acts = h.acts; leads = made_whenever makes now x (steps_of h.acts) y h.leads; wrote = h.wrote; counted = h.counted; so = h.so }

  module _ {A : Type 0} (takes : A → List AskParts → A → Type 0) where
    pub taken_whenever : (now : ℕ) (x y : C) (before after : A) (low high : ℕ) (P : List Act → Type 0) → LeadsTaking (unasked makes) takes x y before after low high P
        → LeadsTaking (at_reading now makes) takes x y before after low high P
    taken_whenever now x y before after low high P h =
        record { taken = h.taken; took = h.took; went = led_whenever now x y h.taken low high P h.went }

    -- ---- passes

    module _ {L N : Type 0} (view : LoopView L N) (reader : ReaderView) (told : Type 0) where
      -- no pass yet
      pub timed_start : ((end : A) → takes end [] end) → (x : C) (links : Links L N) (end : A) (r : List ℕ) (low : ℕ)
          → LeadsTaking makes takes x x end end low low (λ acts. GoesTimed view reader (clock_over told r r) links acts links)
      timed_start none x links end r low = record {
        taken = [];
        took = none end;
        went = record {
          acts = [];
          leads = refl;
          wrote = refl;
          counted = omega arith;
          so = record { went = goes_nowhere view reader links; timed = λ t. timed_none r [] tt };
        };
      }

      -- a pass in which no request was heard, and for which the clock gave no reading
      pub timed_quietly : ((end : A) → takes end [] end) → (x y : C) (old new : Links L N) (end : A) (r s : List ℕ) (low : ℕ)
          → LeadsBy (unasked makes) x y 0 0 (λ acts. GoesOn view reader old acts new) → (told → s ≡ r)
          → LeadsTaking makes takes x y end end low low (λ acts. GoesTimed view reader (clock_over told r s) old acts new)
      timed_quietly none x y old new end r s low h same =
          let acts = h.acts in
          let parts = made_then makes (λ at. ⊥) x (steps_of acts) y h.leads in
          record {
            taken = [];
            took = none end;
            went = record {
              acts = acts;
              leads = parts.0;
              wrote = h.wrote;
              counted = counted_any low acts h.counted;
              so = record {
                went = h.so;
                timed = λ t. subst (λ (l : List ℕ). IsTimedBy r (steps_of acts) l) (sym (same t)) (timed_none r (steps_of acts) parts.1);
              };
            };
          }

      -- a pass at this reading
      pub timed_pass : (now : ℕ) (x y : C) (old new : Links L N) (before after : A) (r s : List ℕ) (low high : ℕ)
          → LeadsTaking (at_reading now makes) takes x y before after low high (λ acts. GoesOn view reader old acts new) → (told → s ≡ r ++ now ∷ [])
          → LeadsTaking makes takes x y before after low high (λ acts. GoesTimed view reader (clock_over told r s) old acts new)
      timed_pass now x y old new before after r s low high h gave =
          let acts = h.went.acts in
          let parts = made_then makes (λ at. at ≡ now) x (steps_of acts) y h.went.leads in
          record {
            taken = h.taken;
            took = h.took;
            went = record {
              acts = acts;
              leads = parts.0;
              wrote = h.went.wrote;
              counted = h.went.counted;
              so = record { went = h.went.so; timed = λ t. timed_one r now (steps_of acts) s (gave t) parts.1 };
            };
          }

      module _ (more : (old : A) (first : List AskParts) (mid : A) (rest : List AskParts) (new : A) → takes old first mid → takes mid rest new → takes old (first ++ rest) new) where
        pub timed_on : (x y z : C) (old mid new : Links L N) (before at after : A) (r s t : List ℕ) (low here high : ℕ)
            → LeadsTaking makes takes x y before at low here (λ acts. GoesTimed view reader (clock_over told r s) old acts mid)
            → LeadsTaking makes takes y z at after here high (λ acts. GoesTimed view reader (clock_over told s t) mid acts new)
            → LeadsTaking makes takes x z before after low high (λ acts. GoesTimed view reader (clock_over told r t) old acts new)
        timed_on x y z old mid new before at after r s t low here high h k =
            let first = h.went.acts in
            let rest = k.went.acts in
            record {
              taken = h.taken ++ k.taken;
              took = more before h.taken at k.taken after h.took k.took;
              went = record {
                acts = first ++ rest;
                leads = acts_lead view.links reader makes x y z first rest h.went.leads k.went.leads;
                wrote = acts_write view.links reader makes first rest h.taken k.taken h.went.wrote k.went.wrote;
                counted = counted_on low here high first rest h.went.counted k.went.counted;
                so = record {
                  went = goes_on view reader old mid new first rest h.went.so.went k.went.so.went;
                  timed = λ tells. subst (λ (l : Made). IsTimedBy r l t) (sym (steps_append first rest))
                      (timed_then r s t (steps_of first) (steps_of rest) (h.went.so.timed tells) (k.went.so.timed tells));
                };
              };
            }

      -- and then links were let go of, for which no check-back was taken
      pub timed_off : (x y z : C) (old mid new : Links L N) (before after : A) (r s : List ℕ) (low high : ℕ)
          → LeadsTaking makes takes x y before after low high (λ acts. GoesTimed view reader (clock_over told r s) old acts mid)
          → LeadsBy (unasked makes) y z 0 0 (λ acts. GoesOn view reader mid acts new)
          → LeadsTaking makes takes x z before after low high (λ acts. GoesTimed view reader (clock_over told r s) old acts new)
      timed_off x y z old mid new before after r s low high h k =
          let first = h.went.acts in
          let rest = k.acts in
          let parts = made_then makes (λ at. ⊥) y (steps_of rest) z k.leads in
          record {
            taken = h.taken;
            took = h.took;
            went = record {
              acts = first ++ rest;
              leads = acts_lead view.links reader makes x y z first rest h.went.leads parts.0;
              wrote = subst (λ (l : List AskParts). AreSome (asks_of (first ++ rest)) l) (append-nil h.taken)
                  (acts_write view.links reader makes first rest h.taken [] h.went.wrote k.wrote);
              counted = counted_on low high high first rest h.went.counted (counted_any high rest k.counted);
              so = record {
                went = goes_on view reader old mid new first rest h.went.so.went k.so;
                timed = λ tells. subst (λ (l : Made). IsTimedBy r l s) (sym (steps_append first rest))
                    (timed_then r s s (steps_of first) (steps_of rest) (h.went.so.timed tells) (timed_none s (steps_of rest) parts.1));
              };
            };
          }
