-- The URIs of the categories and attributes that have a meaning of their own (appendix B).
use Rattle.std.specs.Prelude.{ℕ, List, codes}

-- the category of who asks, and its id attribute (appendix B.2 and B.4)
abbrev pub access_subject : List ℕ
access_subject = codes "urn:oasis:names:tc:xacml:1.0:subject-category:access-subject"

abbrev pub subject_id : List ℕ
subject_id = codes "urn:oasis:names:tc:xacml:1.0:subject:subject-id"

-- the category of what it is done with, and its id attribute (appendix B.2 and B.5)
abbrev pub resource : List ℕ
resource = codes "urn:oasis:names:tc:xacml:3.0:attribute-category:resource"

abbrev pub resource_id : List ℕ
resource_id = codes "urn:oasis:names:tc:xacml:1.0:resource:resource-id"

-- the category of what is done, and its id attribute (appendix B.2 and B.6)
abbrev pub action : List ℕ
action = codes "urn:oasis:names:tc:xacml:3.0:attribute-category:action"

abbrev pub action_id : List ℕ
action_id = codes "urn:oasis:names:tc:xacml:1.0:action:action-id"

-- the category of what belongs to none of them, and its attributes of the date and of the time (appendix B.2 and B.7)
abbrev pub environment : List ℕ
environment = codes "urn:oasis:names:tc:xacml:3.0:attribute-category:environment"

abbrev pub current_date : List ℕ
current_date = codes "urn:oasis:names:tc:xacml:1.0:environment:current-date"

abbrev pub current_time : List ℕ
current_time = codes "urn:oasis:names:tc:xacml:1.0:environment:current-time"

abbrev pub current_date_time : List ℕ
current_date_time = codes "urn:oasis:names:tc:xacml:1.0:environment:current-dateTime"
