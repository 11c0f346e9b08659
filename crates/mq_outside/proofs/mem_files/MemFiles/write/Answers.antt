use Rattle.std.proofs.Common.{rules, ◌≡◌, ◌∙◌, ap, sym, subst, ℕ, List, Option, Some, None}
use Rattle.mq_outside.specs.Files.{bytes_in}
use Rattle.mq_outside.specs.Calls.{put_file}
use Rattle.mq_outside.specs.Named.{content}
use Rattle.mq_outside.specs.MemDisk.{files_of, more_files, more_bytes, HasRoomToAdd, Grows}
use Rattle.mq_outside.proofs.NamedLemmas.{overwritten_none}
use Rattle.mq_outside.proofs.MemFilesLemmas.{absent_content}
use Rattle.mq_outside.proofs.mem_files.MemFiles.write.Goals as goal

pub returns-clause-written : goal.returns-clause-written
returns-clause-written c other =
    let named : c.as_bytes.result.now ≡ c.args.name.now = c.as_bytes.ensures.value in
    let none = absent_content c.args.self.now.extents.items c.args.self.now.buffer.items c.as_bytes.result.now c.place_of-place.result c.args.self.now.filled c.place_of-place.ensures c.if-place.false in
    let absent : content (files_of c.args.self.now) c.args.name.now ≡ None = ap (content (files_of c.args.self.now)) (sym named) ∙ none in
    let whole = overwritten_none c.args.at c.args.piece.now (bytes_in (content (files_of c.args.self.now) c.args.name.now)) (ap bytes_in absent) in
    c.in_ok-add.ensures.added other ∙ ap (λ (l : List ℕ). put_file c.args.name.now (Some l) (content (files_of c.args.self.now)) other) (sym whole)

pub returns-in_err-add-clause-refused : goal.returns-in_err-add-clause-refused
returns-in_err-add-clause-refused c =
    let named : c.as_bytes.result.now ≡ c.args.name.now = c.as_bytes.ensures.value in
    let none = absent_content c.args.self.now.extents.items c.args.self.now.buffer.items c.as_bytes.result.now c.place_of-place.result c.args.self.now.filled c.place_of-place.ensures c.if-place.false in
    let absent : content (files_of c.args.self.now) c.args.name.now ≡ None = ap (content (files_of c.args.self.now)) (sym named) ∙ none in
    let old = content (files_of c.args.self.now) c.args.name.now in
    let past : ¬ HasRoomToAdd c.args.self.now (more_files old) (more_bytes c.args.name.now c.args.at c.args.piece.now old) =
    subst (λ (o : Option (List ℕ)). ¬ HasRoomToAdd c.args.self.now (more_files o) (more_bytes c.args.name.now c.args.at c.args.piece.now o)) (sym absent) c.in_err-add.ensures.refused in
    search rules

pub returns-clause-grows : goal.returns-clause-grows
returns-clause-grows c =
    let named : c.as_bytes.result.now ≡ c.args.name.now = c.as_bytes.ensures.value in
    let none = absent_content c.args.self.now.extents.items c.args.self.now.buffer.items c.as_bytes.result.now c.place_of-place.result c.args.self.now.filled c.place_of-place.ensures c.if-place.false in
    let absent : content (files_of c.args.self.now) c.args.name.now ≡ None = ap (content (files_of c.args.self.now)) (sym named) ∙ none in
    subst (λ (o : Option (List ℕ)). Grows c.args.self.now c.add.new.self (more_files o) (more_bytes c.args.name.now c.args.at c.args.piece.now o)) (sym absent) c.in_ok-add.ensures.grows

pub returns-clause-fits : goal.returns-clause-fits
returns-clause-fits c =
    let named : c.as_bytes.result.now ≡ c.args.name.now = c.as_bytes.ensures.value in
    let none = absent_content c.args.self.now.extents.items c.args.self.now.buffer.items c.as_bytes.result.now c.place_of-place.result c.args.self.now.filled c.place_of-place.ensures c.if-place.false in
    let absent : content (files_of c.args.self.now) c.args.name.now ≡ None = ap (content (files_of c.args.self.now)) (sym named) ∙ none in
    subst (λ (o : Option (List ℕ)). HasRoomToAdd c.args.self.now (more_files o) (more_bytes c.args.name.now c.args.at c.args.piece.now o)) (sym absent) c.in_ok-add.ensures.fits
