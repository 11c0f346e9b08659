-- The texts that the tools write. In the lists of codes 32 is a space and 10 a line end.
use Rattle.std.specs.Prelude.{ℕ, List, [], ◌∷◌, ◌++◌, length, codes, flat_map}
use Rattle.mq_bytes.specs.Decimal.{digits_of}
use Rattle.record_codec.specs.Entry.{Entry}
use Rattle.record_codec.specs.Layout.{size}
use Rattle.log_model.specs.Bases.{Geometry}
use Rattle.log_model.specs.Log.{end_of}
use Rattle.store_open.specs.declared.tool_words.Tool.{Tool}
use Rattle.store_open.specs.declared.tool_words.Tool.TheVariants.{Dump, Verify}

-- the line of a record: its place, topic, queue, number in its queue, and size, with a space between
abbrev pub record_line : Entry → List ℕ
record_line r = digits_of r.offset ++ (32 ∷ (r.topic ++ (32 ∷ (digits_of r.queue ++ (32 ∷ (digits_of r.queue_offset
    ++ (32 ∷ (digits_of (size r) ++ (10 ∷ [])))))))))

-- the text of `dump`: a line for each record
abbrev pub dump_text : List Entry → List ℕ
dump_text records = flat_map record_line records

-- the text of `verify`: how many records there are, and the place where the last one ends; and that tables of them equal them
abbrev pub verify_text : ℕ → ℕ → List ℕ
verify_text records end =
    codes "records " ++ (digits_of records ++ (codes " end " ++ (digits_of end ++ (10 ∷ (codes "equal" ++ (10 ∷ []))))))

-- the text that a tool writes of a log with these records
abbrev pub text_of : Tool → Geometry → List Entry → List ℕ
text_of Dump S records = dump_text records
text_of Verify S records = verify_text (length records) (end_of S.base records)

-- what it has written of these records where the log goes on, and is damaged there
abbrev pub text_before : Tool → List Entry → List ℕ
text_before Dump records = dump_text records
text_before Verify records = []

-- the line of a store that is not this program's
abbrev pub foreign_line : List ℕ → List ℕ
foreign_line name = codes "foreign " ++ (name ++ (10 ∷ []))

-- the line of a damaged store
abbrev pub damaged_line : List ℕ → ℕ → List ℕ
damaged_line name place = codes "damaged " ++ (name ++ (32 ∷ (digits_of place ++ (10 ∷ []))))
