-- What the grammar of records says of whole records.
use Rattle.std.specs.Prelude.{◌≡◌, ◌<◌, ◌+◌, ◌^◌, ℕ, List, [], length}
use Rattle.ori_spec_data.specs.Base.{RecordData}
use Rattle.ori_spec_data.specs.Apply.{HasOwnFields}
use Rattle.ori_spec_data.specs.Sizes.{record_size}
use Rattle.ori_record.specs.declared.bag_field.BagField.{BagField}
use Rattle.ori_record.specs.Spelling.{Spells}
use Rattle.ori_record.specs.Writable.{IsWritable, bags_size}

-- one record with its bags has one spelling
abbrev pub OneSpelling : Type 0
OneSpelling = (a b : List ℕ) (r : RecordData) (bags : List BagField) → Spells a r bags → Spells b r bags → a ≡ b

-- no two records of one identifier have the same bytes, and the bytes tell the bags
abbrev pub OneRecord : Type 0
OneRecord = (bytes : List ℕ) (r s : RecordData) (bags others : List BagField) → Spells bytes r bags
    → Spells bytes s others → (r.rid ≡ s.rid → r ≡ s) × (bags ≡ others)

-- the fields of a record that is spelled are as a record may have them
abbrev pub SpelledAreOwn : Type 0
SpelledAreOwn = (bytes : List ℕ) (r : RecordData) (bags : List BagField) → Spells bytes r bags
    → HasOwnFields r.fields

-- a spelling has as many bytes as the record's size says, and those of its bags
abbrev pub SpelledSize : Type 0
SpelledSize = (bytes : List ℕ) (r : RecordData) (bags : List BagField) → Spells bytes r bags
    → length bytes ≡ record_size r.class r.fields + bags_size bags

-- a record with fields as a record may have them, whose size is below 2 ^ 32, can be written without bags
abbrev pub OwnAreWritable : Type 0
OwnAreWritable = (r : RecordData) → HasOwnFields r.fields → record_size r.class r.fields < 2 ^ 32 → IsWritable r []

-- a record and bags that are spelled can be written
abbrev pub SpelledAreWritable : Type 0
SpelledAreWritable = (bytes : List ℕ) (r : RecordData) (bags : List BagField) → Spells bytes r bags → IsWritable r bags
