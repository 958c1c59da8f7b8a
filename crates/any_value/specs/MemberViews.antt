-- What the code's members are to the definitions of `schema`.
use Rattle.schema.specs.AnyMember as any
use Rattle.any_value.specs.declared.member.Member.{Member}
use Rattle.any_value.specs.declared.member.Member.TheVariants as member

abbrev pub member_view : Member → any.Member
member_view (member.Text b) = any.TextIn b.now
member_view (member.Flag n) = any.FlagIn n
member_view (member.Int n) = any.IntIn n
member_view (member.Double b) = any.DoubleIn b
member_view (member.Items b) = any.ItemsIn b.now
member_view (member.Pairs b) = any.PairsIn b.now
member_view (member.Raw b) = any.RawIn b.now
