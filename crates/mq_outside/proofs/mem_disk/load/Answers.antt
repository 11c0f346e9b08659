use Rattle.std.proofs.Common.{rules, arith, ◌≡◌, ◌∙◌, ℕ, List, ap, refl, Some}
use Rattle.mq_outside.specs.Files.{overwritten, bytes_in}
use Rattle.mq_outside.specs.Calls.{put_file}
use Rattle.mq_outside.specs.Named.{content}
use Rattle.mq_outside.specs.MemDisk.{files_of, more_files, more_bytes, HasRoomToAdd}
use Rattle.mq_outside.proofs.MemDiskLemmas.{no_extents, loaded, more_files_most, more_bytes_most, size_more, size_within}
use Rattle.mq_outside.proofs.mem_disk.load.Goals as goal

pub loop-i-init : goal.loop-i-init
loop-i-init c =
    let none = no_extents c.args.held.now.extents.items c.args.held.now.buffer.items c.requires.none c.args.held.now.filled in
    record {
      same = λ name. ap (λ l. content l name) c.requires.none;
      files = omega (arith, none.0);
      bytes = omega (arith, none.1);
      most_files = refl;
      most_bytes = refl;
    }

pub unreachable-requires : goal.unreachable-requires
unreachable-requires c =
    let old = content (files_of c.loop-i.held) c.as_str.result.now in
    let full : ¬ HasRoomToAdd c.loop-i.held (more_files old) (more_bytes c.as_str.result.now 0 c.deref.result.now old) = search rules in
    let one = more_files_most old in
    let most = more_bytes_most c.as_str.result.now 0 c.deref.result.now old (omega arith) in
    let size = size_within c.args.files.now c.loop-i.i c.index-files-i.result c.as_str.result.now c.deref.result.now c.loop-i-test.true c.index-files-i.is c.as_str.ensures.value c.deref.ensures.value in
    absurd (full (record {
      files_fit = omega (arith, one, c.loop-i.invariant.files, c.loop-i.invariant.most_files, c.requires.number, c.loop-i-test.true);
      bytes_fit = omega (arith, most, size, c.loop-i.invariant.bytes, c.loop-i.invariant.most_bytes, c.requires.bytes);
    }))

pub loop-i-preserved : goal.loop-i-preserved
loop-i-preserved c =
    let size = size_more c.args.files.now c.loop-i.i c.index-files-i.result c.as_str.result.now c.deref.result.now c.loop-i-test.true c.index-files-i.is c.as_str.ensures.value c.deref.ensures.value in
    let written : (other : List ℕ) → content (files_of c.write.new.self) other ≡ put_file c.as_str.result.now (Some (overwritten 0 c.deref.result.now (bytes_in (content (files_of c.loop-i.held) c.as_str.result.now)))) (content (files_of c.loop-i.held)) other = search rules in
    let old = content (files_of c.loop-i.held) c.as_str.result.now in
    record {
      same = loaded c.args.files.now c.loop-i.i c.index-files-i.result c.as_str.result.now c.deref.result.now c.loop-i-test.true c.index-files-i.is c.as_str.ensures.value c.deref.ensures.value (files_of c.loop-i.held) (files_of c.write.new.self) c.requires.apart c.loop-i.invariant.same written;
      files = omega (arith, c.write.ensures.grows.files, more_files_most old, c.loop-i.invariant.files);
      bytes = omega (arith, c.write.ensures.grows.bytes, more_bytes_most c.as_str.result.now 0 c.deref.result.now old (omega arith), c.loop-i.invariant.bytes, size);
      most_files = c.write.ensures.grows.most_files ∙ c.loop-i.invariant.most_files;
      most_bytes = c.write.ensures.grows.most_bytes ∙ c.loop-i.invariant.most_bytes;
    }
