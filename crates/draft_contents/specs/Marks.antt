-- Marks of drafts, and going back to them.
use Rattle.std.specs.Prelude.{take}
use Rattle.schema.specs.Prefix.{IsPrefix}
use Rattle.key_tables.specs.Keys.{ArePrefixes}
use Rattle.key_tables.specs.Keys.{IsMark as IsTablesMark, cut_to as tables_cut_to}
use Rattle.draft_records.specs.Marks.{IsMark as IsRecordsMark}
use Rattle.draft_contents.specs.Contents.{Contents, contents}
use Rattle.draft_contents.specs.Draft.{StandsForSome}
use Rattle.draft_contents.specs.declared.mark.DraftMark.{DraftMark}

-- d goes on from c: each table and the parts begin with those of c
pub record GoesOn (c d : Contents) : Type 0 where
  pub keys : ArePrefixes c.keys d.keys
  pub parts : IsPrefix c.parts d.parts

-- a mark of contents that stand for some meaning
pub record IsMark (m : DraftMark) (c : Contents) : Type 0 where
  pub keys : IsTablesMark m.keys c.keys
  pub parts : IsRecordsMark m.records c.parts
  pub stands : StandsForSome c

-- contents cut back to what a mark tells
abbrev pub cut_to : DraftMark → Contents → Contents
cut_to m c = contents (tables_cut_to m.keys.lengths c.keys) (take m.records.extents c.parts)

-- they can be cut back to it where they go on from the contents that it is of
pub record CanBeCutTo (m : DraftMark) (c : Contents) : Type 0 where
  pub grown : GoesOn (cut_to m c) c
  pub mark : IsMark m (cut_to m c)
