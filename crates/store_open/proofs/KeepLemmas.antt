-- What an opening does to the keep, at each moment.
use Rattle.std.proofs.Common.{◌≡◌, inl, ℕ, List, Option, Some, None, refl, sym, subst, ap, ◌∙◌}
use Rattle.mq_outside.specs.Files.{Files, Same, At, OldOrNew}
use Rattle.mq_outside.specs.Disk.{DiskState, Moves}
use Rattle.mq_outside.proofs.Moments.{at_start, at_end, goes_on, each_same}
use Rattle.store_open.specs.declared.format.Sizes.{Sizes}
use Rattle.store_open.specs.declared.format.AskedSizes.{AskedSizes}
use Rattle.store_open.specs.Formats.{format_text, new_sizes}
use Rattle.store_open.specs.Openings.{FORMAT, IsImageWith, PutsOnly, own_format}

stays : (text : List ℕ) (files : Files) → At FORMAT (OldOrNew text) files files
stays text files = record { here = inl refl; others = λ other apart. refl }

-- no call was made
pub puts_nothing : (text : List ℕ) (keep : DiskState) → PutsOnly text keep keep
puts_nothing text keep = record {
  reads = stays text keep.reads;
  at_each = at_start keep (IsImageWith text keep) (record { at = λ files image. (files, image, stays text files) });
}

-- the format was looked up
puts_loaded : (text : List ℕ) (old new : DiskState) → Moves Same old new → PutsOnly text old new
puts_loaded text old new loaded =
    let before = puts_nothing text old in
    record {
      reads = subst (λ (files : Files). At FORMAT (OldOrNew text) old.reads files) (sym loaded.reads) (stays text old.reads);
      at_each = goes_on before.at_each loaded (each_same loaded (at_end before.at_each));
    }

-- and the text was put
puts_text : (text : List ℕ) (old mid new : DiskState) → Moves Same old mid → Moves (At FORMAT (OldOrNew text)) mid new → PutsOnly text old new
puts_text text old mid new loaded put =
    let so_far = puts_loaded text old mid loaded in
    record {
      reads = subst (λ (files : Files). At FORMAT (OldOrNew text) files new.reads) loaded.reads put.reads;
      at_each = goes_on so_far.at_each put (record {
        at = λ files image.
            let from = put.crash files image in
            let first = loaded.crash from.0 from.1 in
            (first.0, first.1, subst (λ (before : Files). At FORMAT (OldOrNew text) before files) first.2 from.2);
      });
    }

-- which was the text of a new store
pub puts_new : (asked : AskedSizes) (sizes : Sizes) (text : List ℕ) (old mid new : DiskState) → old.reads FORMAT ≡ None → sizes ≡ new_sizes asked
    → text ≡ format_text sizes → Moves Same old mid → Moves (At FORMAT (OldOrNew text)) mid new → PutsOnly (own_format (old.reads FORMAT) asked) old new
puts_new asked sizes text old mid new none are written loaded put =
    subst (λ (kept : Option (List ℕ)). PutsOnly (own_format kept asked) old new) (sym none)
    (subst (λ (t : List ℕ). PutsOnly t old new) (written ∙ ap format_text are) (puts_text text old mid new loaded put))

-- or the one that stood there
pub puts_again : (asked : AskedSizes) (text : List ℕ) (old mid new : DiskState) → old.reads FORMAT ≡ Some text → Moves Same old mid
    → Moves (At FORMAT (OldOrNew text)) mid new → PutsOnly (own_format (old.reads FORMAT) asked) old new
puts_again asked text old mid new there loaded put =
    subst (λ (kept : Option (List ℕ)). PutsOnly (own_format kept asked) old new) (sym there) (puts_text text old mid new loaded put)
