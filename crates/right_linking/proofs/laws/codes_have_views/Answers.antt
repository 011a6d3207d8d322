use Rattle.right_linking.proofs.CodedViews.{codes_have_views}
use Rattle.right_linking.proofs.laws.codes_have_views.Goals as goal

pub returns : goal.returns
returns c = codes_have_views c.profiles_are_one.ensures c.header_is_of_own_rows.ensures
