-- One more call of a disk that keeps its calls.
use Rattle.std.proofs.Common.{◌≡◌, ◌≢◌, inl, inr, ⊎_elim, ℕ, ◌+◌, ◌<◌, ◌≤◌, List, [], ◌∷◌, ◌++◌, length, take, drop, reverse, Option, Some, None, refl, sym, ◌∙◌, ap, subst, arith, length-append, length-take-le, length-take, length-drop}
use Rattle.std.proofs.lemmas.List.{take_all, take_min, take-append-le, take_at, drop_at, reverse-append, append_assoc}
use Rattle.std.proofs.lemmas.Slice.Eq.{bytes_eq-Decides}
use Rattle.std.proofs.lemmas.Bool.{cond-true, cond-false, false_from_ne_true, cases_lt}
use Rattle.std.specs.Prelude.{Result, Ok, Err, OnOk, OnErr}
use Rattle.std.specs.Str.{bytes_eq}
use Rattle.std.specs.Option.{option_map}
use Rattle.mq_outside.specs.Files.{Files, Same, At, Torn, Shortened, Vanished, bytes_in, bytes_of, overwritten}
use Rattle.mq_outside.specs.Disk.{DiskState, IsCrashImage, IsDurable, Moves, AgreesOn, Freshens, IsFreshDurable}
use Rattle.mq_outside.specs.Calls.{Event, reads_after, image_after, Does, AreFresh, state_after, put_file, state_reads_image}

module _ (base : Files) (events : List Event) (event : Event) where
  turned : reverse (events ++ event ∷ []) ≡ event ∷ reverse events
  turned = reverse-append events (event ∷ [])

  -- the image after the call, by the newest first
  newest : (files : Files) → IsCrashImage (state_after base (events ++ event ∷ [])) files → image_after base (event ∷ reverse events) files
  newest files image = subst (λ (l : List Event). image_after base l files)
      (ap reverse (take_all (length (events ++ event ∷ [])) (events ++ event ∷ []) (omega arith)) ∙ turned) image

  before : (files : Files) → image_after base (reverse events) files → IsCrashImage (state_after base events) files
  before files image = subst (λ (l : List Event). image_after base (reverse l) files) (sym (take_all (length events) events (omega arith))) image

  earlier : (m : ℕ) → m ≤ length events → take m (events ++ event ∷ []) ≡ take m events
  earlier m low = take-append-le m events (event ∷ []) low

  -- each image comes from an old one by the step
  pub pushed : (step : Files → Files → Type 0) → step (reads_after base (reverse events)) (reads_after base (event ∷ reverse events))
      → ((old new : Files) → Does event (reverse events) (reads_after base (reverse events)) old new → step old new)
      → Moves step (state_after base events) (state_after base (events ++ event ∷ []))
  pushed step reads does = record {
    reads = subst (λ (l : List Event). step (reads_after base (reverse events)) (reads_after base l)) (sym turned) reads;
    later = omega (arith, length-append events (event ∷ []));
    by_one = omega (arith, length-append events (event ∷ []));
    past = λ m files low image. subst (λ (l : List Event). image_after base (reverse l) files) (earlier m low) image;
    kept = λ m files low image. subst (λ (l : List Event). image_after base (reverse l) files) (sym (earlier m low)) image;
    crash = λ files image. ⊎_elim
        (λ (now : files ≡ reads_after base (event ∷ reverse events)).
        (reads_after base (reverse events), state_reads_image base events, subst (λ (f : Files). step (reads_after base (reverse events)) f) (sym now) reads))
        (λ (from : (old : Files) × image_after base (reverse events) old × Does event (reverse events) (reads_after base (reverse events)) old files).
        (from.0, before from.0 from.1, does from.0 files from.2))
        (newest files image);
  }

-- what is read after a call that changes nothing of it
pub read_still : (base : Files) (events : List Event) (event : Event) → reads_after base (event ∷ reverse events) ≡ reads_after base (reverse events) → reads_after base (reverse (events ++ event ∷ [])) ≡ reads_after base (reverse events)
read_still base events event same = ap (reads_after base) (turned base events event) ∙ same

-- what an Ok gives, or else an Err
pub either_way : {A E P Q : Type 0} (result : Result A E) → OnOk result Q → (Q → P) → OnErr result P → P
either_way (Ok value) done gives failed = gives done
either_way (Err fault) done gives failed = failed

-- no call more
pub unmoved : (state : DiskState) → Moves Same state state
unmoved state = record {
  reads = refl;
  later = omega arith;
  by_one = omega arith;
  past = λ m files low image. image;
  kept = λ m files low image. image;
  crash = λ files image. (files, image, refl);
}

pub put_here : (name : List ℕ) (bytes : Option (List ℕ)) (files : Files) → put_file name bytes files name ≡ bytes
put_here name bytes files = cond-true (bytes_eq name name) bytes (files name) ((bytes_eq-Decides name name).1 refl)

pub put_other : (name other : List ℕ) (bytes : Option (List ℕ)) (files : Files) → other ≢ name → put_file name bytes files other ≡ files other
put_other name other bytes files apart =
    cond-false (bytes_eq name other) bytes (files other) (false_from_ne_true _ (λ same. apart (sym ((bytes_eq-Decides name other).0 same))))

-- what a write that is done leaves is what one torn could leave
pub torn_done : (at : ℕ) (piece : List ℕ) (old : Option (List ℕ)) → at ≤ length (bytes_in old) → Torn at (length piece) old (Some (overwritten at piece (bytes_in old)))
torn_done at piece old within =
    let bytes = bytes_in old in
    let size : length (take at bytes) ≡ at = length-take-le at bytes within in
    let end : length (take at bytes ++ piece) ≡ at + length piece = omega (arith, length-append (take at bytes) piece, size) in
    record {
      there = λ _. refl;
      before = ap (λ (l : List ℕ). take at l) (append_assoc (take at bytes) piece (drop (at + length piece) bytes)) ∙ take_at (take at bytes) (piece ++ drop (at + length piece) bytes) at size;
      after = drop_at (take at bytes ++ piece) (drop (at + length piece) bytes) (at + length piece) end;
      no_shorter = omega (arith, length-append (take at bytes ++ piece) (drop (at + length piece) bytes), end, length-drop (at + length piece) bytes);
      no_longer = omega (arith, length-append (take at bytes ++ piece) (drop (at + length piece) bytes), end, length-drop (at + length piece) bytes);
    }

pub wrote : (base : Files) (events : List Event) (name : List ℕ) (at : ℕ) (piece : List ℕ) → at ≤ length (bytes_of (reads_after base (reverse events)) name)
    → Moves (At name (Torn at (length piece))) (state_after base events) (state_after base (events ++ Event.Wrote name at piece ∷ []))
wrote base events name at piece within = pushed base events (Event.Wrote name at piece) (At name (Torn at (length piece)))
    (record {
      here = subst (λ (b : Option (List ℕ)). Torn at (length piece) (reads_after base (reverse events) name) b) (sym (put_here name (Some (overwritten at piece (bytes_of (reads_after base (reverse events)) name))) (reads_after base (reverse events)))) (torn_done at piece (reads_after base (reverse events) name) within);
      others = λ other apart. put_other name other (Some (overwritten at piece (bytes_of (reads_after base (reverse events)) name))) (reads_after base (reverse events)) apart;
    })
    (λ old new does. does)

-- what is written is fresh, and so is a fresh range that ends where it begins, together with it
pub wrote_fresh : (base : Files) (events : List Event) (name : List ℕ) (at : ℕ) (piece : List ℕ)
    → Freshens name at (length piece) (state_after base events) (state_after base (events ++ Event.Wrote name at piece ∷ []))
wrote_fresh base events name at piece =
    let event : Event = Event.Wrote name at piece in
    record {
      piece = subst (λ (l : List Event). AreFresh l name at (length piece)) (sym (turned base events event)) (λ i low high. inl (refl, low, high));
      longer = λ from before is fresh.
          subst (λ (l : List Event). AreFresh l name from (before + length piece)) (sym (turned base events event))
          (λ i low high. ⊎_elim
          (λ (early : i < at). inr (fresh i low (omega (arith, is, early))))
          (λ (late : at ≤ i). inl (refl, late, omega (arith, is, high)))
          (cases_lt i at));
    }

pub synced : (base : Files) (events : List Event) (name : List ℕ) → Moves Same (state_after base events) (state_after base (events ++ Event.Synced name ∷ []))
synced base events name = pushed base events (Event.Synced name) Same refl (λ old new does. does.0)

pub synced_durable : (base : Files) (events : List Event) (name : List ℕ) → IsFreshDurable name (state_after base events) (state_after base (events ++ Event.Synced name ∷ []))
synced_durable base events name from n fresh = record {
  at = λ files image.
      let now : reads_after base (reverse (events ++ Event.Synced name ∷ [])) ≡ reads_after base (reverse events) = ap (reads_after base) (turned base events (Event.Synced name)) in
      subst (λ (f : Files). AgreesOn name from n f files) (sym now) (⊎_elim
      (λ (is : files ≡ reads_after base (reverse events)). ap (λ (f : Files). take n (drop from (bytes_of f name))) is)
      (λ (left : (old : Files) × image_after base (reverse events) old × Does (Event.Synced name) (reverse events) (reads_after base (reverse events)) old files). left.2.1 from n fresh)
      (newest base events (Event.Synced name) files image));
}

pub missed : (base : Files) (events : List Event) (name : List ℕ) → Moves Same (state_after base events) (state_after base (events ++ Event.Missed name ∷ []))
missed base events name = pushed base events (Event.Missed name) Same refl (λ old new does. does)

pub renewed : (base : Files) (events : List Event) (name : List ℕ) → Moves Same (state_after base events) (state_after base (events ++ Event.Renewed name ∷ []))
renewed base events name = pushed base events (Event.Renewed name) Same refl (λ old new does. does.0)

pub renewed_durable : (base : Files) (events : List Event) (name : List ℕ) → IsDurable name (state_after base (events ++ Event.Renewed name ∷ []))
renewed_durable base events name files image =
    let now : (state_after base (events ++ Event.Renewed name ∷ [])).reads name ≡ reads_after base (reverse events) name =
    ap (λ (l : List Event). reads_after base l name) (turned base events (Event.Renewed name)) in
    ⊎_elim
    (λ (is : files ≡ reads_after base (reverse events)). ap (λ (f : Files). f name) is ∙ sym now)
    (λ (from : (old : Files) × image_after base (reverse events) old × Does (Event.Renewed name) (reverse events) (reads_after base (reverse events)) old files). from.2.1 ∙ sym now)
    (newest base events (Event.Renewed name) files image)

cut_done : (len : ℕ) (old : Option (List ℕ)) → Shortened len old (option_map (λ bytes. take len bytes) old)
cut_done len None = record { there = ((λ there. there), (λ there. there)); no_shorter = omega arith; front = refl }
cut_done len (Some bytes) = record {
  there = ((λ _. refl), (λ _. refl));
  no_shorter = omega (arith, length-take len bytes);
  front = ap (λ (k : ℕ). take k bytes) (length-take len bytes) ∙ take_min len bytes;
}

pub cut : (base : Files) (events : List Event) (name : List ℕ) (len : ℕ)
    → Moves (At name (Shortened len)) (state_after base events) (state_after base (events ++ Event.Cut name len ∷ []))
cut base events name len =
    let read = reads_after base (reverse events) in
    let after : Option (List ℕ) = option_map (λ bytes. take len bytes) (read name) in
    pushed base events (Event.Cut name len) (At name (Shortened len))
    (record {
      here = subst (λ (b : Option (List ℕ)). Shortened len (read name) b) (sym (put_here name after read)) (cut_done len (read name));
      others = λ other apart. put_other name other after read apart;
    })
    (λ old new does. does)

pub removed : (base : Files) (events : List Event) (name : List ℕ) → Moves (At name Vanished) (state_after base events) (state_after base (events ++ Event.Removed name ∷ []))
removed base events name =
    let read = reads_after base (reverse events) in
    pushed base events (Event.Removed name) (At name Vanished)
    (record { here = inl (put_here name None read); others = λ other apart. put_other name other None read apart })
    (λ old new does. record { here = inl does.here; others = does.others })

pub removed_durable : (base : Files) (events : List Event) (name : List ℕ) → IsDurable name (state_after base (events ++ Event.Removed name ∷ []))
removed_durable base events name files image =
    let read = reads_after base (reverse events) in
    let now : (state_after base (events ++ Event.Removed name ∷ [])).reads name ≡ None =
    ap (λ (l : List Event). reads_after base l name) (turned base events (Event.Removed name)) ∙ put_here name None read in
    ⊎_elim
    (λ (is : files ≡ reads_after base (Event.Removed name ∷ reverse events)). ap (λ (f : Files). f name) is ∙ put_here name None read ∙ sym now)
    (λ (from : (old : Files) × image_after base (reverse events) old × Does (Event.Removed name) (reverse events) read old files). from.2.here ∙ sym now)
    (newest base events (Event.Removed name) files image)
