-- What a link holds of a frame that isn't whole.
use Rattle.std.specs.Prelude.{ℕ, ◌-◌, ◌||◌, length, if◌then◌else◌}
use Rattle.session.specs.Settling.{is_loaded_of}
use Rattle.link_service.specs.declared.linked.Linked.{Linked}
use Rattle.link_service.specs.declared.linked.TheConstants.{PASS_BYTES}

-- How many bytes are held of a frame that isn't whole, or of what is no frame. Where whole requests may be held too, as many as one pass
-- reads don't count. None of a link that broke.
abbrev pub unfinished_in : {L : Type 0} → Linked L → ℕ
unfinished_in linked = if linked.broken then 0
    else (if linked.behind || is_loaded_of linked.session then length linked.session.talk.cutter.bytes - PASS_BYTES
    else length linked.session.talk.cutter.bytes)
