use Rattle.std.proofs.Common.{◌≡◌, [], ◌∷◌, ◌++◌, List, ap, ◌∙◌}
use Rattle.prof_rec.specs.declared.sample.Sample.{Sample}
use Rattle.prof_rec.specs.Columns.{samples_in}
use Rattle.prof_rec.proofs.Heads.{Grew, added, columns_grew}
use Rattle.prof_rec.proofs.columns.add_sample.Goals as goal

pub returns-clause-parted : goal.returns-clause-parted
returns-clause-parted c =
    let s = c.args.sample.now in
    let new = c.put_sample.new.all in
    let is = c.in_default.ensures.ok in
    let grown : Grew c.args.heads.now c.args.all.now new s.values s.attribute_indices s.timestamps_unix_nano =
    columns_grew c.args.heads.now c.args.all.now new s.values s.attribute_indices s.timestamps_unix_nano c.requires
    (ap (λ (x : Sample). x.values) is) (ap (λ (x : Sample). x.attribute_indices) is) (ap (λ (x : Sample). x.timestamps_unix_nano) is) in
    rw c.in_default.ensures.heads grown.parted

pub returns-clause-ok : goal.returns-clause-ok
returns-clause-ok c =
    let s = c.args.sample.now in
    let new = c.put_sample.new.all in
    let is = c.in_default.ensures.ok in
    let grown : Grew c.args.heads.now c.args.all.now new s.values s.attribute_indices s.timestamps_unix_nano =
    columns_grew c.args.heads.now c.args.all.now new s.values s.attribute_indices s.timestamps_unix_nano c.requires
    (ap (λ (x : Sample). x.values) is) (ap (λ (x : Sample). x.attribute_indices) is) (ap (λ (x : Sample). x.timestamps_unix_nano) is) in
    let stack : new.stack_index ≡ s.stack_index = ap (λ (x : Sample). x.stack_index) is in
    let link : new.link_index ≡ s.link_index = ap (λ (x : Sample). x.link_index) is in
    let same : Sample = record { stack_index = s.stack_index; values = s.values; attribute_indices = s.attribute_indices; link_index = s.link_index; timestamps_unix_nano = s.timestamps_unix_nano } in
    let last : added new s.values s.attribute_indices s.timestamps_unix_nano ≡ same = cc in
    rw c.in_default.ensures.heads (grown.samples ∙ ap (λ (x : Sample). samples_in c.args.heads.now c.args.all.now ++ x ∷ []) last)
