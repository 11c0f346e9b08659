use Rattle.std.proofs.Common.{◌∙◌, inl, inr, ℕ, List, All, Err, ap, sym, subst, refl, arith}
use Rattle.mq_outside.specs.Files.{Files}
use Rattle.broker_model.specs.State.{State}
use Rattle.broker_model.specs.Tables.{OffsetRow, TopicRow}
use Rattle.group_tables.specs.Offsets.{IsOffset}
use Rattle.config_store.specs.Configs.{HasConfig}
use Rattle.config_store.specs.Texts.{IsKeptTopic, offsets_text_of, topics_text_of}
use Rattle.config_store.specs.Faults.{CountsConfigFault}
use Rattle.log_opening.specs.Opens.{saved_as}
use Rattle.store_open.specs.Openings.{FORMAT, PutsOnly, own_format}
use Rattle.mq_outside.proofs.Moments.{rests_start, rests_call}
use Rattle.log_model.specs.Bases.{whole}
use Rattle.log_model.proofs.OutsideLemmas.{outside_start, outside_same, outside_then}
use Rattle.broker_run.specs.Promise.{pipe_setup, KeepSeen, KeepsOpen, KeepsState}
use Rattle.store_open.proofs.OptionLemmas.{no_unfit_word}
use Rattle.store_open.proofs.SizeLemmas.{asks_sizes}
use Rattle.broker_run.proofs.QuietLemmas.{quiet_call}
use Rattle.log_opening.specs.declared.opening.Opened.{Opened}
use Rattle.exit_status.proofs.KeepLemmas.{config_before, misread, misread_before, opened_still, puts_still, refused_by}
use Rattle.exit_status.proofs.LogLemmas.{honest_rests, leaves_around, leaves_flushed, stores_rests, unrecovered, unrecovered_around}
use Rattle.broker_run.proofs.CauseLemmas.{opening_causes, is_ours, fits_arguments, run_causes}
use Rattle.broker_run.proofs.KeptLemmas.{opened_kept, kept_from, config_causes, not_of_config}
use Rattle.broker_run.proofs.RunLemmas.{left_open, runs_some, begins_with, keeps_on}
use Rattle.broker_run.proofs.run.run_pipe.Goals as goal

pub returns-in-Err-open_format-clause-foreign : goal.returns-in-Err-open_format-clause-foreign
returns-in-Err-open_format-clause-foreign g c = λ told kept code.
    (c.in-Ok.command, c.in-Ok.ensures.fits, c.in-Err-open_format.ensures.foreign told kept code)

pub returns-in-Err-open_format-clause-causes : goal.returns-in-Err-open_format-clause-causes
returns-in-Err-open_format-clause-causes g c = opening_causes c.in-Err-open_format.status _ _ c.in-Err-open_format.ensures.cause

pub returns-in-Err-open_log_with-clause-fits : goal.returns-in-Err-open_log_with-clause-fits
returns-in-Err-open_log_with-clause-fits g c = λ fits. record {
  command = c.in-Ok.command;
  asked = c.in-Ok.ensures.fits;
  called = inr (record {
    untouched = record { given_is = refl; taken_is = refl; readings_is = refl };
    why = inr (inr (record {
      sizes = c.in-Ok-open_format.sizes;
      opened_as = opened_still _ _ _ _ _ c.in-Ok-load_config.ensures.rests c.in-Ok-open_format.ensures.opened;
      log = unrecovered_around (whole c.in-Ok-open_format.sizes.segment) _ c.status_of_fault.result _ _ _ _
          (λ told. rests_call (rests_call (rests_start _) (c.in-Ok-open_format.ensures.rests told)) (c.in-Ok-reader.ensures.moves told))
          (unrecovered Opened _ _ c.status_of_fault.result _ _ c.in-Err-open_log_with.fault c.status_of_fault.ensures.tells
          c.in-Err-open_log_with.ensures.damaged c.in-Err-open_log_with.ensures.untouched c.in-Err-open_log_with.ensures.flushed)
          (λ told. rests_call (rests_start _) (c.take_back.ensures.moves told));
    }));
    puts = λ told. puts_still _ _ _ _ (c.in-Ok-open_format.ensures.puts told) (c.in-Ok-load_config.ensures.rests told);
  });
}

pub returns-in-Err-load_config-clause-fits : goal.returns-in-Err-load_config-clause-fits
returns-in-Err-load_config-clause-fits g c = λ fits. record {
  command = c.in-Ok.command;
  asked = c.in-Ok.ensures.fits;
  called = inr (record {
    untouched = record { given_is = refl; taken_is = refl; readings_is = refl };
    why = inr (inl (misread_before c.status_of_config.result _ _ _ _ _ _ _ _ _
        (λ told. rests_call (rests_start _) (c.in-Ok-open_format.ensures.rests told)) c.in-Ok-open_format.ensures.puts
        (misread c.status_of_config.result _ c.in-Err-load_config.fault c.status_of_config.ensures.tells c.in-Err-load_config.ensures.bad (λ told. rests_start _))));
    puts = λ told. puts_still _ _ _ _ (c.in-Ok-open_format.ensures.puts told) (c.in-Err-load_config.ensures.rests told);
  });
}

pub returns-clause-fits : goal.returns-clause-fits
returns-clause-fits g c = λ fits.
    let command = c.in-Ok.command in
    let sizes = c.in-Ok-open_format.sizes in
    let setup = pipe_setup command sizes in
    let opened = c.in-Ok-open_log_with.opened in
    let served = c.serve_log.ensures.served in
    let format = c.in-Ok-open_format.ensures.rests in
    let reader = c.in-Ok-reader.ensures.moves in
    let put = c.in-Ok-open_format.ensures.puts in
    let config = c.in-Ok-load_config.config in
    let offsets = c.as_slice-offsets.result.now in
    let topics = c.as_slice-topics.result.now in
    let saved = saved_as offsets topics in
    let mid : KeepSeen = record {
      tells = g.P.Keep.tells;
      old = g.P.Keep.state c.load_config.new.keep;
      new = g.P.Keep.state c.serve_log.new.keep;
      failed = g.P.Keep.faults c.load_config.new.keep;
      failed_then = g.P.Keep.faults c.serve_log.new.keep;
    } in
    let keep : KeepSeen = record {
      tells = g.P.Keep.tells;
      old = g.P.Keep.state c.args.keep.now;
      new = g.P.Keep.state c.serve_log.new.keep;
      failed = g.P.Keep.faults c.args.keep.now;
      failed_then = g.P.Keep.faults c.serve_log.new.keep;
    } in
    let own = own_format ((g.P.Keep.state c.args.keep.now).reads FORMAT) command.sizes in
    let loaded : keep.tells → PutsOnly own keep.old mid.old = λ told. puts_still own _ _ _ (put told) (c.in-Ok-load_config.ensures.rests told) in
    let kept = KeepsState own c.serve_log.result keep in
    let as_well = λ (s : State) (it : KeepsOpen c.serve_log.result mid s).
    kept_from own c.serve_log.result keep mid.old mid.failed s (c.in-Ok-load_config.ensures.cause ∙ c.in-Ok-open_format.ensures.keep_still) loaded it in
    let left = left_open opened c.serve_log.result _ setup saved mid served c.in-Ok-open_log_with.ensures.represents in
    let some = runs_some opened c.serve_log.result _ c.open_log_with.new.disk setup saved mid kept as_well served c.in-Ok-open_log_with.ensures.represents in
    record {
      command = c.in-Ok.command;
      asked = c.in-Ok.ensures.fits;
      called = inl (record {
        ended = served.ended;
        last = served.last;
        replaced = served.replaced;
        tells = served.tells;
        sizes = sizes;
        opened_as = opened_kept _ _ _ (offsets_text_of left.0.offsets) (topics_text_of left.0.topics) _ _ (λ told. left.1.puts told)
            (opened_still _ _ _ _ _ c.in-Ok-load_config.ensures.rests c.in-Ok-open_format.ensures.opened);
        offsets = offsets;
        topics = topics;
        config = λ told. config_before own _ _ offsets topics (put told)
            (subst (λ (rows : List OffsetRow). HasConfig (g.P.Keep.state c.open_format.new.keep).reads rows topics) (sym c.as_slice-offsets.ensures.value)
            (subst (λ (rows : List TopicRow). HasConfig (g.P.Keep.state c.open_format.new.keep).reads config.offsets.items rows) (sym c.as_slice-topics.ensures.value)
            (c.in-Ok-load_config.ensures.read told)));
        some = some;
        begins = λ told. begins_with opened c.serve_log.result _ c.open_log_with.new.disk setup saved mid kept as_well served
            (g.D.Disk.state c.reader.new.self).reads ((reader told).reads ∙ (format told).reads) (c.in-Ok-open_log_with.ensures.kept told);
        durable = λ told log flushed stores honest.
            let S = whole sizes.segment in
            let rests = rests_call (rests_call (rests_start _) (format told)) (reader told) in
            keeps_on opened c.serve_log.result _ c.open_log_with.new.disk setup saved mid kept as_well served told c.in-Ok-open_log_with.ensures.ahead log flushed
            (c.in-Ok-open_log_with.ensures.ours told log flushed (stores_rests S log flushed _ _ rests stores) (honest_rests S log flushed _ _ rests honest))
            (leaves_around S _ _ _ _ rests (leaves_flushed S _ _ (c.in-Ok-open_log_with.ensures.flushed told)) (rests_start _) log flushed stores honest);
      });
    }

pub returns-in-Err-open_format-clause-fits : goal.returns-in-Err-open_format-clause-fits
returns-in-Err-open_format-clause-fits g c = λ fits. record {
  command = c.in-Ok.command;
  asked = c.in-Ok.ensures.fits;
  called = inr (record {
    untouched = record { given_is = refl; taken_is = refl; readings_is = refl };
    why = inl (record {
      refused = refused_by c.in-Err-open_format.status _ _ _ _ c.in-Err-open_format.ensures.cause;
      still = λ told. rests_call (rests_start _) (c.in-Err-open_format.ensures.rests told);
    });
    puts = c.in-Err-open_format.ensures.puts;
  });
}

pub returns-clause-wrong : goal.returns-clause-wrong
returns-clause-wrong g c = λ none. absurd (none c.in-Ok.command c.in-Ok.ensures.fits)

pub returns-in-Err-open_log_with-clause-outside : goal.returns-in-Err-open_log_with-clause-outside
returns-in-Err-open_log_with-clause-outside g c tells =
    let read = outside_same (outside_same (outside_start _) (c.in-Ok-open_format.ensures.rests tells)) (c.in-Ok-reader.ensures.moves tells) in
    outside_same (outside_then read (c.in-Err-open_log_with.ensures.outside tells)) (c.take_back.ensures.moves tells)

pub returns-clause-outside : goal.returns-clause-outside
returns-clause-outside g c tells =
    let read = outside_same (outside_same (outside_start _) (c.in-Ok-open_format.ensures.rests tells)) (c.in-Ok-reader.ensures.moves tells) in
    outside_then (outside_then read (c.in-Ok-open_log_with.ensures.outside tells)) (c.serve_log.ensures.outside tells)

pub returns-clause-foreign : goal.returns-clause-foreign
returns-clause-foreign g c = λ told kept six. absurd (is_ours _ c.serve_log.ensures.cause.known six)

pub open_log_with-requires : goal.open_log_with-requires
open_log_with-requires g c = record {
  size = (c.in-Ok-open_format.ensures.allowed (asks_sizes _ _ c.in-Ok.ensures.fits)).segment;
  offsets = subst (λ (rows : List OffsetRow). All IsOffset rows) (sym c.as_slice-offsets.ensures.value) c.in-Ok-load_config.ensures.each.0;
  topics = subst (λ (rows : List TopicRow). All IsKeptTopic rows) (sym c.as_slice-topics.ensures.value) c.in-Ok-load_config.ensures.each.1;
}

pub returns-in-Err-load_config-clause-causes : goal.returns-in-Err-load_config-clause-causes
returns-in-Err-load_config-clause-causes g c =
    config_causes c.status_of_config.result c.in-Err-load_config.fault _ _ c.status_of_config.ensures.tells
    (subst (λ (n : ℕ). CountsConfigFault {A = Unit {0}} (Err c.in-Err-load_config.fault) n (g.P.Keep.faults c.load_config.new.keep)) c.in-Ok-open_format.ensures.keep_still c.in-Err-load_config.ensures.cause)

pub returns-clause-stands : goal.returns-clause-stands
returns-clause-stands g c = λ told text there.
    c.serve_log.ensures.others told FORMAT (λ e. absurd (cc e)) (λ e. absurd (cc e)) ∙ ap (λ (f : Files). f FORMAT) (c.in-Ok-load_config.ensures.rests told).same
    ∙ c.in-Ok-open_format.ensures.stands told text there

pub returns-clause-kept : goal.returns-clause-kept
returns-clause-kept g c = λ told name not_format not_offsets not_topics.
    c.serve_log.ensures.others told name not_offsets not_topics ∙ ap (λ (f : Files). f name) (c.in-Ok-load_config.ensures.rests told).same
    ∙ c.in-Ok-open_format.ensures.others told name not_format

pub returns-clause-causes : goal.returns-clause-causes
returns-clause-causes g c =
    run_causes c.serve_log.result _ _ (g.D.Disk.faults c.open_log_with.new.disk)
    (c.in-Ok-open_log_with.ensures.cause ∙ c.in-Ok-reader.ensures.cause ∙ c.in-Ok-open_format.ensures.disk_still)
    (g.P.Keep.faults c.load_config.new.keep) (c.in-Ok-load_config.ensures.cause ∙ c.in-Ok-open_format.ensures.keep_still) c.serve_log.ensures.cause

pub returns-in-Err-clause-complete : goal.returns-in-Err-clause-complete
returns-in-Err-clause-complete g c = λ quiet. absurd (no_unfit_word _ _ quiet.asked.1.settings c.in-Err.place quiet.asked.1.are c.in-Err.ensures.wrong)

pub returns-clause-complete : goal.returns-clause-complete
returns-clause-complete g c = λ quiet.
    quiet_call _ c.serve_log.result _ _ _ _ quiet (returns-clause-causes g c)
    (returns-clause-fits g c (fits_arguments _ c.serve_log.ensures.cause.known))
    (λ told kept six. absurd (is_ours _ c.serve_log.ensures.cause.known six))

pub returns-in-Err-load_config-clause-foreign : goal.returns-in-Err-load_config-clause-foreign
returns-in-Err-load_config-clause-foreign g c = λ told kept six. absurd (not_of_config c.status_of_config.result c.in-Err-load_config.fault 6 (omega arith) c.status_of_config.ensures.tells six)

pub returns-in-Err-load_config-clause-theirs : goal.returns-in-Err-load_config-clause-theirs
returns-in-Err-load_config-clause-theirs g c = λ kept six. absurd (not_of_config c.status_of_config.result c.in-Err-load_config.fault 6 (omega arith) c.status_of_config.ensures.tells six)

pub returns-in-Err-load_config-clause-stands : goal.returns-in-Err-load_config-clause-stands
returns-in-Err-load_config-clause-stands g c = λ told text there.
    ap (λ (f : Files). f FORMAT) (c.in-Err-load_config.ensures.rests told).same ∙ c.in-Ok-open_format.ensures.stands told text there

pub returns-in-Err-load_config-clause-kept : goal.returns-in-Err-load_config-clause-kept
returns-in-Err-load_config-clause-kept g c = λ told name not_format not_offsets not_topics.
    ap (λ (f : Files). f name) (c.in-Err-load_config.ensures.rests told).same ∙ c.in-Ok-open_format.ensures.others told name not_format

pub returns-in-Err-load_config-clause-complete : goal.returns-in-Err-load_config-clause-complete
returns-in-Err-load_config-clause-complete g c = λ quiet.
    quiet_call _ c.status_of_config.result _ _ _ _ quiet (returns-in-Err-load_config-clause-causes g c)
    (returns-in-Err-load_config-clause-fits g c (not_of_config c.status_of_config.result c.in-Err-load_config.fault 1 (omega arith) c.status_of_config.ensures.tells))
    (λ told kept six. absurd (not_of_config c.status_of_config.result c.in-Err-load_config.fault 6 (omega arith) c.status_of_config.ensures.tells six))

pub returns-in-Err-open_log_with-clause-stands : goal.returns-in-Err-open_log_with-clause-stands
returns-in-Err-open_log_with-clause-stands g c = λ told text there.
    ap (λ (f : Files). f FORMAT) (c.in-Ok-load_config.ensures.rests told).same ∙ c.in-Ok-open_format.ensures.stands told text there

pub returns-in-Err-open_log_with-clause-kept : goal.returns-in-Err-open_log_with-clause-kept
returns-in-Err-open_log_with-clause-kept g c = λ told name not_format not_offsets not_topics.
    ap (λ (f : Files). f name) (c.in-Ok-load_config.ensures.rests told).same ∙ c.in-Ok-open_format.ensures.others told name not_format

pub returns-in-Err-Failed-clause-fits : goal.returns-in-Err-Failed-clause-fits
returns-in-Err-Failed-clause-fits g c = λ fits. record {
  command = c.in-Ok.command;
  asked = c.in-Ok.ensures.fits;
  called = inr (record {
    untouched = record { given_is = refl; taken_is = refl; readings_is = refl };
    why = inl (record {
      refused = inl c.plain.ensures.code;
      still = λ told. rests_call (rests_call (rests_start _) (c.in-Ok-open_format.ensures.rests told)) (c.in-Err-Failed.ensures.moves told);
    });
    puts = λ told. puts_still _ _ _ _ (c.in-Ok-open_format.ensures.puts told) (c.in-Ok-load_config.ensures.rests told);
  });
}

pub returns-in-Err-Failed-clause-stands : goal.returns-in-Err-Failed-clause-stands
returns-in-Err-Failed-clause-stands g c = λ told text there.
    ap (λ (f : Files). f FORMAT) (c.in-Ok-load_config.ensures.rests told).same ∙ c.in-Ok-open_format.ensures.stands told text there

pub returns-in-Err-Failed-clause-kept : goal.returns-in-Err-Failed-clause-kept
returns-in-Err-Failed-clause-kept g c = λ told name not_format not_offsets not_topics.
    ap (λ (f : Files). f name) (c.in-Ok-load_config.ensures.rests told).same ∙ c.in-Ok-open_format.ensures.others told name not_format

pub returns-in-Err-Memory-clause-fits : goal.returns-in-Err-Memory-clause-fits
returns-in-Err-Memory-clause-fits g c = λ fits. record {
  command = c.in-Ok.command;
  asked = c.in-Ok.ensures.fits;
  called = inr (record {
    untouched = record { given_is = refl; taken_is = refl; readings_is = refl };
    why = inl (record {
      refused = inr (inr (inl c.plain-in-Err-Memory.ensures.code));
      still = λ told. rests_call (rests_call (rests_start _) (c.in-Ok-open_format.ensures.rests told)) (c.in-Err-Memory.ensures.moves told);
    });
    puts = λ told. puts_still _ _ _ _ (c.in-Ok-open_format.ensures.puts told) (c.in-Ok-load_config.ensures.rests told);
  });
}

pub returns-in-Err-Memory-clause-stands : goal.returns-in-Err-Memory-clause-stands
returns-in-Err-Memory-clause-stands g c = λ told text there.
    ap (λ (f : Files). f FORMAT) (c.in-Ok-load_config.ensures.rests told).same ∙ c.in-Ok-open_format.ensures.stands told text there

pub returns-in-Err-Memory-clause-kept : goal.returns-in-Err-Memory-clause-kept
returns-in-Err-Memory-clause-kept g c = λ told name not_format not_offsets not_topics.
    ap (λ (f : Files). f name) (c.in-Ok-load_config.ensures.rests told).same ∙ c.in-Ok-open_format.ensures.others told name not_format
